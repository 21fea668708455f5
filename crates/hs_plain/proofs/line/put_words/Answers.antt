use Rattle.std.proofs.Common.{◌≡◌, refl, [], ◌∷◌, List, ◌⊎◌, inl, inr, rules}
use Rattle.std.proofs.lemmas.Slice.Zip.{either_empty_from_Zip}
use Rattle.hs_meaning.specs.Plain.{words_of}
use Rattle.hs_meaning.specs.Values.{Value}
use Rattle.hs_types.specs.TypeTables.{TypeTable}
use Rattle.hs_types.specs.declared.row.TypeId.{TypeId}
use Rattle.hs_plain.proofs.line.put_words.Goals as goal

-- without types or without values there are no words
no_words : (types : TypeTable) (ids : List TypeId) (values : List Value) → (ids ≡ []) ⊎ (values ≡ []) → words_of types ids values ≡ []
no_words types [] values h = refl
no_words types (id ∷ ids) [] h = refl
no_words types (id ∷ ids) (value ∷ values) (inl e) = absurd cc
no_words types (id ∷ ids) (value ∷ values) (inr e) = absurd cc

-- nothing is left
pub returns : goal.returns
returns c =
    let left = no_words c.args.types.now _ _ (either_empty_from_Zip c.words.id-iterator c.next.new.self _ c.in-None.is c.next.ensures.steps)
    in search rules
