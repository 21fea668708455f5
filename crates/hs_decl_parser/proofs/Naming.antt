-- `typedef` is among the specifiers, and the names that a declaration makes.
--     typedef_is                       one of the specifiers is the word
--     made, made_none, made_nothing    the typedef names of an external declaration
use Rattle.std.proofs.Common.{◌≡◌, Bool, true, false, List, [], ◌∷◌, ◌++◌, refl, ap, sym, ◌∙◌, map}
use Rattle.std.specs.Prelude.{◌||◌, ℕ, if◌then◌else◌}
use Rattle.std.proofs.lemmas.List.{append-nil}
use Rattle.std.specs.List.{list_any}
use Rattle.hs_syntax.specs.Phrases.{is_typedef, name_of, made_by}
use Rattle.hs_syntax.specs.Trees as tree
use Rattle.hs_syntax.specs.Trees.{Specified}
use Rattle.hs_syntax.specs.Views.{specification_of, view_specifier, view_declarator, view_item, view_declaration}
use Rattle.hs_syntax.specs.declared.decl.Decl.{Decl}
use Rattle.hs_syntax.specs.declared.decl.Item.{Item}
use Rattle.hs_syntax.specs.declared.expr.Specifier.{Specifier}
use Rattle.hs_syntax.specs.declared.operators.Storage.TheVariants as storage
use Rattle.hs_decl_parser.specs.Typedefs.{is_typedef_word}

-- one more specifier
more : (it : Specified) (rest : Bool) (its : tree.Specification) → is_typedef its ≡ rest → is_typedef (tree.more_specifiers it its)
    ≡ (is_typedef_word it || rest)
more (tree.storage storage.Typedef at) rest its is = refl
more (tree.storage storage.Extern at) rest its is = is
more (tree.storage storage.Static at) rest its is = is
more (tree.dropped word at) rest its is = is
more (tree.basic word at) rest its is = is
more (tree.named word) rest its is = is
more (tree.struct_tag at tag) rest its is = is
more (tree.struct_body at tag brace members) rest its is = is
more (tree.enum_tag at tag) rest its is = is
more (tree.enum_body at tag brace constants comma) rest its is = is

pub typedef_is : (its : List Specifier) → is_typedef (specification_of its) ≡ list_any (λ it. is_typedef_word (view_specifier it)) its
typedef_is [] = refl
typedef_is (it ∷ rest) = more (view_specifier it) (list_any (λ it. is_typedef_word (view_specifier it)) rest) (specification_of rest) (typedef_is rest)

-- the names of declarators
names_seen : (items : List Item) → map (λ item. name_of item.declarator) (map view_item items) ≡ map (λ item. name_of (view_declarator item.declarator)) items
names_seen [] = refl
names_seen (it ∷ rest) = ap (λ names. name_of (view_declarator it.declarator) ∷ names) (names_seen rest)

-- a typedef makes its declarators' names
pub made : (known : List (List ℕ)) (it : Decl) → is_typedef (specification_of it.specifiers.items) ≡ true
    → known ++ map (λ item. name_of (view_declarator item.declarator)) it.items.items ≡ known ++ made_by (tree.declaration (view_declaration it))
made known it is =
    ap (λ names. known ++ names)
    (sym (names_seen it.items.items) ∙ ap (λ typed. if typed then map (λ item. name_of item.declarator) (map view_item it.items.items) else []) (sym is))

-- another declaration makes none
pub made_none : (known : List (List ℕ)) (it : Decl) → is_typedef (specification_of it.specifiers.items) ≡ false
    → known ≡ known ++ made_by (tree.declaration (view_declaration it))
made_none known it is =
    sym (append-nil known)
    ∙ ap (λ names. known ++ names) (ap (λ typed. if typed then map (λ item. name_of item.declarator) (map view_item it.items.items) else []) (sym is))

-- no names make nothing more
pub made_nothing : (known : List (List ℕ)) → known ≡ known ++ []
made_nothing known = sym (append-nil known)
