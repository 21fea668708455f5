-- The number that a well-typed constant expression gives is one of its type (X3.159-1989 3.4): operators compute in promoted kinds, which
-- hold every number of 32 bits, and conversions give a number of their kind.
--     IsWide kind, HasWideKinds e         a kind of 32 bits; the operators under the constants of an expression compute in such kinds
--     promoted_wide, common_wide          the kinds that operators compute in
--     InKind program bits id              the number is one of the type
--     number_right                        the law
use Rattle.std.proofs.Common.{◌≡◌, ℕ, ◌<◌, ◌+◌, ◌%◌, ◌==◌, Bool, true, false, not, Option, Some, None, refl, sym, subst, ap, ◌∙◌, if◌then◌else◌, arith}
use Rattle.std.specs.Prelude.{is_some, nat_lt, option_map}
use Rattle.hs_base.specs.Options.{some_same}
use Rattle.hs_operand_types.specs.Constants.{number_value, converted_value, of_chosen, cast_value, constant_value}
use Rattle.hs_operands.specs.Laws.{IsTyped}
use Rattle.hs_operands.specs.Laws.Made.{either_way}
use Rattle.hs_operands.specs.Laws.Numbers.{integer_number}
use Rattle.hs_operands.specs.Laws.Stays.{is_number-stays}
use Rattle.hs_tree.specs.Kinds.{kind_of_row, is_void_row, number_kind, is_number, is_void, IsNumber}
use Rattle.hs_tree.specs.Objects.{number_in}
use Rattle.hs_tree.specs.Trees as tree
use Rattle.hs_tree.specs.Trees.{RightValue, TypedFunction, TypedProgram, type_of}
use Rattle.hs_types.specs.Integers.{integer_size, promoted, common, converted, sign_extended}
use Rattle.hs_types.specs.Rows.{integer_id}
use Rattle.hs_types.specs.TypeTables.{TypeTable, row_of, IsRight, Grows}
use Rattle.hs_types.specs.declared.integer.Integer.{Integer}
use Rattle.hs_types.specs.declared.integer.Integer.TheVariants as kind
use Rattle.hs_types.specs.declared.row.Row.{Row}
use Rattle.hs_types.specs.declared.row.Row.TheVariants as row
use Rattle.hs_types.specs.declared.row.TypeId.{TypeId}

-- a kind of 32 bits
abbrev pub IsWide : Integer → Type 0
IsWide its = integer_size its ≡ 4

-- what promotions give
pub promoted_wide : (its : Integer) → IsWide (promoted its)
promoted_wide kind.Char = refl
promoted_wide kind.SignedChar = refl
promoted_wide kind.UnsignedChar = refl
promoted_wide kind.Short = refl
promoted_wide kind.UnsignedShort = refl
promoted_wide kind.Int = refl
promoted_wide kind.UnsignedInt = refl
promoted_wide kind.Long = refl
promoted_wide kind.UnsignedLong = refl

-- and the usual conversions
pub common_wide : (a b : Integer) → IsWide (common a b)
common_wide kind.Char kind.Char = refl
common_wide kind.SignedChar kind.SignedChar = refl
common_wide kind.UnsignedChar kind.UnsignedChar = refl
common_wide kind.Short kind.Short = refl
common_wide kind.UnsignedShort kind.UnsignedShort = refl
common_wide kind.Int kind.Int = refl
common_wide kind.UnsignedInt kind.UnsignedInt = refl
common_wide kind.Long kind.Long = refl
common_wide kind.UnsignedLong kind.UnsignedLong = refl
common_wide _ _ = refl

-- Operators that make a number of constants compute in kinds of 32 bits.
abbrev pub HasWideKinds : RightValue → Type 0
HasWideKinds (tree.number head bits) = Unit {0}
HasWideKinds (tree.nil head) = Unit {0}
HasWideKinds (tree.load head object) = Unit {0}
HasWideKinds (tree.decay head array) = Unit {0}
HasWideKinds (tree.address head object) = Unit {0}
HasWideKinds (tree.cast head operand) = HasWideKinds operand
HasWideKinds (tree.convert_number head its operand) = HasWideKinds operand
HasWideKinds (tree.convert_pointer head operand) = Unit {0}
HasWideKinds (tree.unary head operator its operand) = IsWide its
HasWideKinds (tree.not head operand) = Unit {0}
HasWideKinds (tree.arithmetic head operator its a b) = IsWide its
HasWideKinds (tree.comparison head operator its a b) = Unit {0}
HasWideKinds (tree.compare_pointers head operator a b) = Unit {0}
HasWideKinds (tree.is_nil head equal pointer) = Unit {0}
HasWideKinds (tree.step head stride pointer_first a b) = Unit {0}
HasWideKinds (tree.difference head size a b) = Unit {0}
HasWideKinds (tree.and head a b) = Unit {0}
HasWideKinds (tree.or head a b) = Unit {0}
HasWideKinds (tree.conditional head test taken otherwise) = HasWideKinds taken × HasWideKinds otherwise
HasWideKinds (tree.comma head lefts last) = Unit {0}
HasWideKinds (tree.assign head into from) = Unit {0}
HasWideKinds (tree.update head operator its to into from) = Unit {0}
HasWideKinds (tree.advance head stride into from) = Unit {0}
HasWideKinds (tree.post_update head operator its to into) = Unit {0}
HasWideKinds (tree.post_advance head stride into) = Unit {0}
HasWideKinds (tree.call head number routine arguments) = Unit {0}
HasWideKinds (tree.call_routine head routine arguments) = Unit {0}

-- every number of 32 bits is one of such a kind
wide_same : (its : Integer) → IsWide its → (bits : ℕ) → converted its bits ≡ bits
wide_same kind.Char wide bits = absurd (omega (arith, wide))
wide_same kind.SignedChar wide bits = absurd (omega (arith, wide))
wide_same kind.UnsignedChar wide bits = absurd (omega (arith, wide))
wide_same kind.Short wide bits = absurd (omega (arith, wide))
wide_same kind.UnsignedShort wide bits = absurd (omega (arith, wide))
wide_same kind.Int wide bits = refl
wide_same kind.UnsignedInt wide bits = refl
wide_same kind.Long wide bits = refl
wide_same kind.UnsignedLong wide bits = refl

-- the low bits of a number with a sign are its own
char_again : (b : Bool) (low : ℕ) → low < 256 → nat_lt low 128 ≡ b
    → sign_extended 256 (if b then low else low + 4294967040) ≡ (if b then low else low + 4294967040)
char_again true low below same =
    let own : low % 256 ≡ low = omega (arith, below) in
    rw own (rw same refl)
char_again false low below same =
    let own : (low + 4294967040) % 256 ≡ low = omega (arith, below) in
    rw own (rw same refl)

short_again : (b : Bool) (low : ℕ) → low < 65536 → nat_lt low 32768 ≡ b
    → sign_extended 65536 (if b then low else low + 4294901760) ≡ (if b then low else low + 4294901760)
short_again true low below same =
    let own : low % 65536 ≡ low = omega (arith, below) in
    rw own (rw same refl)
short_again false low below same =
    let own : (low + 4294901760) % 65536 ≡ low = omega (arith, below) in
    rw own (rw same refl)

-- a converted number is one of the kind
converted_again : (its : Integer) (bits : ℕ) → converted its (converted its bits) ≡ converted its bits
converted_again kind.Char bits = char_again (nat_lt (bits % 256) 128) (bits % 256) (omega arith) refl
converted_again kind.SignedChar bits = char_again (nat_lt (bits % 256) 128) (bits % 256) (omega arith) refl
converted_again kind.UnsignedChar bits = omega arith
converted_again kind.Short bits = short_again (nat_lt (bits % 65536) 32768) (bits % 65536) (omega arith) refl
converted_again kind.UnsignedShort bits = omega arith
converted_again kind.Int bits = refl
converted_again kind.UnsignedInt bits = refl
converted_again kind.Long bits = refl
converted_again kind.UnsignedLong bits = refl

-- a number is not void
number_row_not_void : (it : Option Row) → is_some (kind_of_row it) ≡ true → is_void_row it ≡ false
number_row_not_void None is = absurd cc
number_row_not_void (Some row.Void) is = absurd cc
number_row_not_void (Some (row.Integer its)) is = refl
number_row_not_void (Some (row.Pointer of)) is = absurd cc
number_row_not_void (Some (row.Enumeration number)) is = refl
number_row_not_void (Some (row.Struct number)) is = absurd cc
number_row_not_void (Some (row.Array of length layout)) is = absurd cc
number_row_not_void (Some (row.OpenArray of)) is = absurd cc
number_row_not_void (Some (row.Function result list)) is = absurd cc

number_not_void : (types : TypeTable) (id : TypeId) → is_number types id ≡ true → is_void types id ≡ false
number_not_void types id is = number_row_not_void (row_of types id) is

-- of what a value was made
number_known : (o : Option Integer) (bits : ℕ) (v : _) → number_value o bits ≡ Some v → v.bits ≡ bits
number_known None bits v given = absurd cc
number_known (Some its) bits v given = sym (ap (λ w. w.bits) (some_same _ v given))

cast_known : (b : Bool) (o : _) (v : _) → cast_value b o ≡ Some v → (b ≡ true) × (o ≡ Some v)
cast_known true o v given = (refl, given)
cast_known false o v given = absurd cc

mapped_known : {A : Type 0} → (f : A → A) (o : Option A) (v : A) → option_map f o ≡ Some v → (w : A) × (o ≡ Some w) × (f w ≡ v)
mapped_known f None v given = absurd cc
mapped_known f (Some w) v given = (w, refl, some_same (f w) v given)

-- one of two
chosen_in : (holds : ℕ → Type 0) (o p q : _) (v : _) → of_chosen o p q ≡ Some v → ((a : _) → p ≡ Some a → holds a.bits)
    → ((b : _) → q ≡ Some b → holds b.bits) → holds v.bits
chosen_in holds None p q v given is is' = absurd cc
chosen_in holds (Some test) None q v given is is' = absurd cc
chosen_in holds (Some test) (Some a) None v given is is' = absurd cc
chosen_in holds (Some test) (Some a) (Some b) v given is is' =
    subst (λ w. holds w.bits) (some_same _ v given)
    (either_way holds (not (test.bits == 0)) a.bits b.bits (λ met. is a refl) (λ fails. is' b refl))

module _ (program : TypedProgram) where
  -- the number is one of the type
  abbrev pub InKind : ℕ → TypeId → Type 0
  InKind bits id = number_in bits (number_kind program.types id) ≡ Some bits

  -- of a kind of 32 bits
  wide_number : IsRight program.types → (its : Integer) (id : TypeId) (bits : ℕ) → IsWide its → id ≡ integer_id its → InKind bits id
  wide_number sound its id bits wide same =
      let known : number_kind program.types id ≡ Some its = ap (number_kind program.types) same ∙ integer_number program.types its sound in
      ap (number_in bits) known ∙ ap Some (wide_same its wide bits)

  -- by a conversion
  pub converted_in_kind : (its : Integer) (id : TypeId) (bits : ℕ) → IsNumber program.types its id → InKind (converted its bits) id
  converted_in_kind its id bits known = ap (number_in (converted its bits)) known ∙ ap Some (converted_again its bits)

  -- 3.4: a constant expression of a number type gives a number of the type.
  module _ (function : TypedFunction) (sound : IsRight program.types) (types : TypeTable) (grows : Grows types program.types) where
    pub number_right : (e : RightValue) → IsTyped program function e → HasWideKinds e → (v : _) → constant_value types e ≡ Some v
        → InKind v.bits (type_of e)
    number_right (tree.number head bits) is wide v given =
        let same = number_known (number_kind types head.type_id) bits v given in
        subst (λ n. number_in n (number_kind program.types head.type_id) ≡ Some n) (sym same) is.1
    number_right (tree.nil head) is wide v given = absurd cc
    number_right (tree.load head object) is wide v given = absurd cc
    number_right (tree.decay head array) is wide v given = absurd cc
    number_right (tree.address head object) is wide v given = absurd cc
    number_right (tree.cast head operand) is wide v given =
        let had = cast_known (is_number types head.type_id) (constant_value types operand) v given in
        let number : is_number program.types head.type_id ≡ true = is_number-stays types program.types grows head.type_id had.0 in
        subst (InKind v.bits) (sym (is.0.1 (number_not_void program.types head.type_id number))) (number_right operand is.1 wide v had.1)
    number_right (tree.convert_number head its operand) is wide v given =
        let had = mapped_known (converted_value its) (constant_value types operand) v given in
        let bits : converted its had.0.bits ≡ v.bits = ap (λ w. w.bits) had.2 in
        subst (λ n. InKind n head.type_id) bits (converted_in_kind its head.type_id had.0.bits is.0.1)
    number_right (tree.convert_pointer head operand) is wide v given = absurd cc
    number_right (tree.unary head operator its operand) is wide v given = wide_number sound its head.type_id v.bits wide is.0.1
    number_right (tree.not head operand) is wide v given = wide_number sound kind.Int head.type_id v.bits refl is.0.1
    number_right (tree.arithmetic head operator its a b) is wide v given = wide_number sound its head.type_id v.bits wide is.0.1
    number_right (tree.comparison head operator its a b) is wide v given = wide_number sound kind.Int head.type_id v.bits refl is.0.1
    number_right (tree.compare_pointers head operator a b) is wide v given = absurd cc
    number_right (tree.is_nil head equal pointer) is wide v given = absurd cc
    number_right (tree.step head stride pointer_first a b) is wide v given = absurd cc
    number_right (tree.difference head size a b) is wide v given = absurd cc
    number_right (tree.and head a b) is wide v given = wide_number sound kind.Int head.type_id v.bits refl is.0.1
    number_right (tree.or head a b) is wide v given = wide_number sound kind.Int head.type_id v.bits refl is.0.1
    number_right (tree.conditional head test taken otherwise) is wide v given =
        chosen_in (λ n. InKind n head.type_id) (constant_value types test) (constant_value types taken) (constant_value types otherwise) v given
        (λ a made. subst (InKind a.bits) is.0.1.0 (number_right taken is.2 wide.0 a made))
        (λ b made. subst (InKind b.bits) is.0.1.1 (number_right otherwise is.3 wide.1 b made))
    number_right (tree.comma head lefts last) is wide v given = absurd cc
    number_right (tree.assign head into from) is wide v given = absurd cc
    number_right (tree.update head operator its to into from) is wide v given = absurd cc
    number_right (tree.advance head stride into from) is wide v given = absurd cc
    number_right (tree.post_update head operator its to into) is wide v given = absurd cc
    number_right (tree.post_advance head stride into) is wide v given = absurd cc
    number_right (tree.call head number routine arguments) is wide v given = absurd cc
    number_right (tree.call_routine head routine arguments) is wide v given = absurd cc
