-- The bytes that count, when one object is replaced, and when there is one more at the end.
use Rattle.std.proofs.Common.{◌≡◌, ◌≤◌, ◌<◌, ◌+◌, ◌-◌, ℕ, Bool, true, false, List, [], ◌∷◌, ◌++◌, length, refl, sym, ap, subst, ◌∙◌, slice_set, get_or, arith}
use Rattle.std.proofs.lemmas.List.Recursion.{is_sum_by}
use Rattle.std.proofs.lemmas.List.Sums.{sum_by-set, sum_by_push, get_or-le-sum_by}
use Rattle.std.specs.List.{sum_by}
use Rattle.hs_meaning.specs.Machine.{Object, Storage, ended, bytes_if, bytes_where, ended_object, is_automatic, is_allocated}
use Rattle.hs_objects.specs.Objects.{IsCounted}

module _ (is : Storage → Bool) where
  -- what one object adds
  abbrev pub bytes_of : Object → ℕ
  bytes_of its = bytes_if (is its.storage) its

  -- as std's sum
  summed : (objects : List Object) → bytes_where is objects ≡ sum_by bytes_of objects
  summed objects = is_sum_by (bytes_where is) bytes_of refl (λ _ _. refl) objects

  -- with another object there
  pub bytes_where-set : (objects : List Object) (place : ℕ) (new other : Object) → place < length objects
      → bytes_where is (slice_set objects place new) + bytes_of (get_or objects place other) ≡ bytes_where is objects + bytes_of new
  bytes_where-set objects place new other there =
      ap (λ it. it + bytes_of (get_or objects place other)) (summed (slice_set objects place new))
      ∙ sum_by-set bytes_of objects place new other there
      ∙ ap (λ it. it + bytes_of new) (sym (summed objects))

  -- with one more
  pub bytes_where-push : (objects : List Object) (new : Object) → bytes_where is (objects ++ new ∷ []) ≡ bytes_where is objects + bytes_of new
  bytes_where-push objects new =
      summed (objects ++ new ∷ []) ∙ sum_by_push bytes_of objects new ∙ ap (λ it. it + bytes_of new) (sym (summed objects))

  -- no object adds more than all of them
  pub bytes_of-le-bytes_where : (objects : List Object) (place : ℕ) (old other : Object) → place < length objects → old ≡ get_or objects place other
      → bytes_of old ≤ bytes_where is objects
  bytes_of-le-bytes_where objects place old other there here =
      subst (λ it. bytes_of it ≤ bytes_where is objects) (sym here)
      (subst (λ it. bytes_of (get_or objects place other) ≤ it) (sym (summed objects)) (get_or-le-sum_by bytes_of objects place other there))

  -- one that has ended adds nothing
  bytes_if-ended : (counts : Bool) → bytes_if counts ended_object ≡ 0
  bytes_if-ended true = refl
  bytes_if-ended false = refl

  -- once that object has ended
  pub bytes_where-ended : (objects : List Object) (place : ℕ) (old other : Object) → place < length objects → old ≡ get_or objects place other
      → bytes_where is objects - bytes_of old ≡ bytes_where is (slice_set objects place ended_object)
  bytes_where-ended objects place old other there here =
      let counted = bytes_where-set objects place ended_object other there
      in let same : bytes_of old ≡ bytes_of (get_or objects place other) = ap bytes_of here
      in let ends = bytes_if-ended (is ended)
      in omega arith

  -- as much as before if the object adds as much
  pub bytes_where-same : (objects : List Object) (place : ℕ) (old new other : Object) → place < length objects → old ≡ get_or objects place other
      → bytes_of new ≡ bytes_of old → bytes_where is objects ≡ bytes_where is (slice_set objects place new)
  bytes_where-same objects place old new other there here as_much =
      let counted = bytes_where-set objects place new other there
      in let same : bytes_of old ≡ bytes_of (get_or objects place other) = ap bytes_of here
      in omega arith

-- an object adds as much as another one that is as large, if both count or neither
bytes_if-as_large : (counts : Bool) (old new : Object) → length new.cells ≡ length old.cells → bytes_if counts new ≡ bytes_if counts old
bytes_if-as_large true old new as_large = as_large
bytes_if-as_large false old new as_large = refl

-- with another object there that lives as long and is as large
pub counted_same : (objects : List Object) (calls routines place : ℕ) (old new other : Object) → IsCounted objects calls routines
    → place < length objects → old ≡ get_or objects place other → length new.cells ≡ length old.cells → new.storage ≡ old.storage
    → IsCounted (slice_set objects place new) calls routines
counted_same objects calls routines place old new other counted there here as_large as_long =
    let as_much : (is : Storage → Bool) → bytes_of is new ≡ bytes_of is old
    = λ is. ap (λ it. bytes_if (is it) new) as_long ∙ bytes_if-as_large (is old.storage) old new as_large
    in record {
      calls = counted.calls ∙ bytes_where-same is_automatic objects place old new other there here (as_much is_automatic);
      routines = counted.routines ∙ bytes_where-same is_allocated objects place old new other there here (as_much is_allocated);
    }

-- once that object has ended
pub counted_ended : (objects : List Object) (calls routines place : ℕ) (old other : Object) → IsCounted objects calls routines
    → place < length objects → old ≡ get_or objects place other
    → IsCounted (slice_set objects place ended_object) (calls - bytes_of is_automatic old) (routines - bytes_of is_allocated old)
counted_ended objects calls routines place old other counted there here =
    record {
      calls = ap (λ it. it - bytes_of is_automatic old) counted.calls ∙ bytes_where-ended is_automatic objects place old other there here;
      routines = ap (λ it. it - bytes_of is_allocated old) counted.routines ∙ bytes_where-ended is_allocated objects place old other there here;
    }

-- with one more
pub counted_push : (objects items : List Object) (calls routines : ℕ) (new : Object) → IsCounted objects calls routines
    → items ≡ objects ++ new ∷ [] → IsCounted items (calls + bytes_of is_automatic new) (routines + bytes_of is_allocated new)
counted_push objects items calls routines new counted pushed =
    subst (λ its. IsCounted its (calls + bytes_of is_automatic new) (routines + bytes_of is_allocated new)) (sym pushed)
    (record {
      calls = ap (λ it. it + bytes_of is_automatic new) counted.calls ∙ sym (bytes_where-push is_automatic objects new);
      routines = ap (λ it. it + bytes_of is_allocated new) counted.routines ∙ sym (bytes_where-push is_allocated objects new);
    })
