-- What a run is given as well as its sources, if it is known which files there are. Own to this project.
--     text_in files name      the text of the file of that name, or why there is no text
--     settings_in files it    the table, the script and the input that a run names, or the first error
--     settings_are            what was answered is that, if no read failed
use Rattle.std.specs.Prelude.{◌≡◌, ◌<◌, ◌≤◌, nat_le, ℕ, Bool, true, false, List, [], ◌∷◌, ◌++◌, length, Option, Some, None, Result, Ok, Err}
use Rattle.std.proofs.Common.{refl, sym, ap, subst, ◌∙◌, inl, inr, arith, le-leb}
use Rattle.std.proofs.lemmas.Bool.Decides.{nat_tests}
use Rattle.hs_base.specs.Files.{Listing, Read, file_of}
use Rattle.hs_base.specs.Limit.{number_of}
use Rattle.hs_base.specs.declared.errors.FileEnd.{FileEnd}
use Rattle.hs_base.specs.declared.errors.FileEnd.TheVariants as ends
use Rattle.hs_base.specs.declared.limit.LimitKind.TheVariants.{FileBytes}
use Rattle.hs_meaning.specs.declared.input.Input.{Input}
use Rattle.hs_movers.specs.declared.script.Script.{Script}
use Rattle.hs_table.specs.declared.routine.Routine.{Routine}
use Rattle.hs_words.specs.Words.{Asked}
use Rattle.hs_settings.specs.Settings.{Gives, HasInput, HasScript, IsNamed, IsPart, IsSettings, IsWhole, input_in, no_input, onward, script_in, table_in, text_by, text_from}
use Rattle.hs_settings.specs.Stages.{Then}
use Rattle.hs_settings.specs.declared.settings.Settings.{Settings}
use Rattle.hs_settings.specs.declared.settings.SettingsError.{SettingsError}
use Rattle.hs_settings.specs.declared.settings.SettingsError.TheVariants.{Missing, Unread, Limit, NotToml, BadVersion, BadEntry, BadScript, BadInput, NoMemory}

-- ---- what is wanted

-- a text, unless it has more bytes than a file may have
abbrev pub short_text : List ℕ → Bool → Result (List ℕ) SettingsError
short_text text true = Ok text
short_text text false = Err (Limit (record { kind = FileBytes; reached = number_of FileBytes }))

-- of the file of that name, if it is listed
abbrev pub text_of_file : List ℕ → Option (List ℕ) → Result (List ℕ) SettingsError
text_of_file name None = Err (Missing name)
text_of_file name (Some text) = short_text text (nat_le (length text) (number_of FileBytes))

abbrev pub text_in : Listing → List ℕ → Result (List ℕ) SettingsError
text_in files name = text_of_file name (file_of files name)

-- what the text of a file is
abbrev pub part_in : {A : Type 0} → Listing → (List ℕ → Result A SettingsError) → List ℕ → Result A SettingsError
part_in files what name = onward (text_in files name) what

-- of a file that may be left out
abbrev pub named_in : {A : Type 0} → Listing → A → (List ℕ → Result A SettingsError) → Option (List ℕ) → Result A SettingsError
named_in files default what None = Ok default
named_in files default what (Some name) = part_in files what name

-- the table, the script and the input, in this order
abbrev pub with_input : Listing → Asked → List Routine → Option Script → Result Settings SettingsError
with_input files it table script =
    onward (named_in files no_input input_in it.input) (λ input. Ok (record { table = table; script = script; input = input }))

abbrev pub with_script : Listing → Asked → List Routine → Result Settings SettingsError
with_script files it table = onward (named_in files None script_in it.script) (with_input files it table)

abbrev pub settings_in : Listing → Asked → Result Settings SettingsError
settings_in files it = onward (part_in files table_in it.table) (with_script files it)

-- ---- what is answered

-- of files that are known, a read without a fault is answered so
abbrev pub IsAnsweredBy : Listing → List ℕ → ℕ → Result (List ℕ) FileEnd → Type 0
IsAnsweredBy files name max (Ok text) = (length text ≤ max) × (file_of files name ≡ Some text)
IsAnsweredBy files name max (Err ends.Missing) = file_of files name ≡ None
IsAnsweredBy files name max (Err ends.Failed) = ⊥
IsAnsweredBy files name max (Err ends.TooLong) = (text : List ℕ) × (file_of files name ≡ Some text) × (max < length text)
IsAnsweredBy files name max (Err ends.NoMemory) = Unit {0}

-- all of them are
abbrev pub AreAnsweredBy : Listing → List Read → Type 0
AreAnsweredBy files [] = Unit {0}
AreAnsweredBy files (read ∷ reads) = IsAnsweredBy files read.name read.max read.answer × AreAnsweredBy files reads

-- and so are the first ones, and those after them
pub answered_parts : (files : Listing) (front rest : List Read) → AreAnsweredBy files (front ++ rest)
    → AreAnsweredBy files front × AreAnsweredBy files rest
answered_parts files [] rest are = (tt, are)
answered_parts files (read ∷ front) rest are =
    let parts = answered_parts files front rest are.1 in ((are.0, parts.0), parts.1)

-- a text that is too long is not short
too_long : (bound count : ℕ) → bound < count → nat_le count bound ≡ false
too_long bound count long = grind (arith, nat_tests, long)

-- the text of a file
text_told : (files : Listing) (name : List ℕ) (answer : Result (List ℕ) FileEnd) → IsAnsweredBy files name (number_of FileBytes) answer
    → Gives (text_in files name) (text_from name answer)
text_told files name (Ok text) is =
    ap (text_of_file name) is.1 ∙ ap (short_text text) (le-leb (length text) (number_of FileBytes) is.0)
text_told files name (Err ends.Missing) is = ap (text_of_file name) is
text_told files name (Err ends.Failed) is = absurd is
text_told files name (Err ends.TooLong) is =
    ap (text_of_file name) is.1 ∙ ap (short_text is.0) (too_long (number_of FileBytes) (length is.0) is.2)
text_told files name (Err ends.NoMemory) is = tt

-- where memory ran out, nothing else is said
said_nothing : {A : Type 0} (wanted result : Result A SettingsError) → Gives (Err NoMemory) result → Gives wanted result
said_nothing wanted (Ok it) is = absurd cc
said_nothing wanted (Err (Missing name)) is = absurd cc
said_nothing wanted (Err (Unread name)) is = absurd cc
said_nothing wanted (Err (Limit limit)) is = absurd cc
said_nothing wanted (Err NotToml) is = absurd cc
said_nothing wanted (Err BadVersion) is = absurd cc
said_nothing wanted (Err (BadEntry name)) is = absurd cc
said_nothing wanted (Err (BadScript line)) is = absurd cc
said_nothing wanted (Err (BadInput line)) is = absurd cc
said_nothing wanted (Err NoMemory) is = tt

-- what is given instead of what is wanted, and what follows
module _ {A B : Type 0} (wanted : Result A SettingsError) (what : A → Result B SettingsError) (result : Result B SettingsError) where
  instead : (given : Result A SettingsError) → wanted ≡ given → Gives (onward given what) result → Gives (onward wanted what) result
  instead given same = subst (λ (it : Result A SettingsError). Gives (onward it what) result) (sym same)

  gives_onward : (given : Result A SettingsError) → Gives wanted given → Gives (onward given what) result → Gives (onward wanted what) result
  gives_onward (Ok it) is = instead (Ok it) is
  gives_onward (Err (Missing name)) is = instead (Err (Missing name)) is
  gives_onward (Err (Unread name)) is = instead (Err (Unread name)) is
  gives_onward (Err (Limit limit)) is = instead (Err (Limit limit)) is
  gives_onward (Err NotToml) is = instead (Err NotToml) is
  gives_onward (Err BadVersion) is = instead (Err BadVersion) is
  gives_onward (Err (BadEntry name)) is = instead (Err (BadEntry name)) is
  gives_onward (Err (BadScript line)) is = instead (Err (BadScript line)) is
  gives_onward (Err (BadInput line)) is = instead (Err (BadInput line)) is
  gives_onward (Err NoMemory) is = said_nothing (onward wanted what) result

-- an error that is given instead of what is wanted is the error of the whole
stands : {A B : Type 0} (wanted : Result A SettingsError) (what : A → Result B SettingsError) (error : SettingsError) → Gives wanted (Err error)
    → Gives (onward wanted what) (Err error)
stands wanted what (Missing name) is = ap (λ it. onward it what) is
stands wanted what (Unread name) is = ap (λ it. onward it what) is
stands wanted what (Limit limit) is = ap (λ it. onward it what) is
stands wanted what NotToml is = ap (λ it. onward it what) is
stands wanted what BadVersion is = ap (λ it. onward it what) is
stands wanted what (BadEntry name) is = ap (λ it. onward it what) is
stands wanted what (BadScript line) is = ap (λ it. onward it what) is
stands wanted what (BadInput line) is = ap (λ it. onward it what) is
stands wanted what NoMemory is = tt

module _ (files : Listing) where
  -- a file that is named
  part_told : {A : Type 0} (name : List ℕ) (what : List ℕ → Result A SettingsError) (reads : List Read) (result : Result A SettingsError)
      → AreAnsweredBy files reads → IsPart name what reads result → Gives (part_in files what name) result
  part_told name what reads result are (read, same, (is_name, is_most), gives) =
      let is = (subst (AreAnsweredBy files) same are).0 in
      let whole = subst (λ (most : ℕ). IsAnsweredBy files read.name most read.answer) is_most is in
      let told = subst (λ (it : List ℕ). Gives (text_in files it) (text_by read)) is_name (text_told files read.name read.answer whole) in
      gives_onward (text_in files name) what result (text_by read) told gives

  -- one that may be left out
  named_told : {A : Type 0} (default : A) (what : List ℕ → Result A SettingsError) (name : Option (List ℕ)) (reads : List Read)
      (result : Result A SettingsError) → AreAnsweredBy files reads → IsNamed default what name reads result
      → Gives (named_in files default what name) result
  named_told default what None reads result are is =
      subst (λ (it : Result _ SettingsError). Gives (Ok default) it) (sym is.1) refl
  named_told default what (Some name) reads result are is = part_told name what reads result are is

  -- one stage after another
  then_told : {A B : Type 0} (first : List Read → Result A SettingsError → Type 0) (next : A → List Read → Result B SettingsError → Type 0)
      (wanted : Result A SettingsError) (what : A → Result B SettingsError)
      → ((reads : List Read) (result : Result A SettingsError) → AreAnsweredBy files reads → first reads result → Gives wanted result)
      → ((it : A) (reads : List Read) (result : Result B SettingsError) → AreAnsweredBy files reads → next it reads result → Gives (what it) result)
      → (reads : List Read) (result : Result B SettingsError) → AreAnsweredBy files reads → Then first next reads result
      → Gives (onward wanted what) result
  then_told first next wanted what one other reads (Ok it) are (front, rest, given, same, is, is_next) =
      let parts = answered_parts files front rest (subst (AreAnsweredBy files) same are) in
      gives_onward wanted what (Ok it) (Ok given) (one front (Ok given) parts.0 is) (other given rest (Ok it) parts.1 is_next)
  then_told first next wanted what one other reads (Err error) are (inl is) = stands wanted what error (one reads (Err error) are is)
  then_told first next wanted what one other reads (Err error) are (inr (front, rest, given, same, is, is_next)) =
      let parts = answered_parts files front rest (subst (AreAnsweredBy files) same are) in
      gives_onward wanted what (Err error) (Ok given) (one front (Ok given) parts.0 is) (other given rest (Err error) parts.1 is_next)

  -- nothing more
  whole_told : (table : List Routine) (script : Option Script) (input : Input) (reads : List Read) (result : Result Settings SettingsError)
      → AreAnsweredBy files reads → IsWhole table script input reads result
      → Gives (Ok (record { table = table; script = script; input = input })) result
  whole_told table script input reads result are is =
      subst (λ (it : Result Settings SettingsError). Gives (Ok (record { table = table; script = script; input = input })) it) (sym is.1) refl

  -- all of them: what was answered is what the files say
  pub settings_are : (it : Asked) (reads : List Read) (result : Result Settings SettingsError) → AreAnsweredBy files reads
      → IsSettings it reads result → Gives (settings_in files it) result
  settings_are it =
      then_told (IsPart it.table table_in) (HasScript it) (part_in files table_in it.table) (with_script files it) (part_told it.table table_in)
      (λ table. then_told (IsNamed None script_in it.script) (HasInput it table) (named_in files None script_in it.script) (with_input files it table)
      (named_told None script_in it.script)
      (λ script. then_told (IsNamed no_input input_in it.input) (IsWhole table script) (named_in files no_input input_in it.input)
      (λ input. Ok (record { table = table; script = script; input = input })) (named_told no_input input_in it.input)
      (λ input. whole_told table script input)))
