-- What is judged of two chains is so of all their entries.
--     Differs-judged            their first entries that are not alike are in that order
--     AtMost-differs            and with as many entries the one is not after the other
use Rattle.std.proofs.Common.{◌≡◌, List, [], ◌∷◌, ◌++◌, length, refl, ap, sym, ◌∙◌, subst, append_assoc, append-nil, arith, inl, inr}
use Rattle.hs_search.specs.Comparing.{Differs, now, later, IsMadeFrom, by_step, by_call, by_return, IsBelow, itself, through, Judged, apart, in_through, through_in, through_both}
use Rattle.hs_search.specs.Graphs.{FlowGraph}
use Rattle.hs_search.specs.Orders.{AtMost, IsBefore, before, alike}
use Rattle.hs_search.specs.Traces.{Trace, entries_of, trace_in, trace_back}
use Rattle.hs_search.specs.declared.graph.Node.{Node}

-- ---- lists of entries

pub not_before : (u : Node) → ¬ IsBefore u u
not_before u (inl less) = omega arith
not_before u (inr (same, less)) = omega arith

differs_more : (xs ys us vs : List Node) → Differs xs ys → Differs (xs ++ us) (ys ++ vs)
differs_more _ _ us vs (now x y xs ys less) = now x y (xs ++ us) (ys ++ vs) less
differs_more _ _ us vs (later x y xs ys same rest) = later x y (xs ++ us) (ys ++ vs) same (differs_more xs ys us vs rest)

differs_after : (us xs ys : List Node) → Differs xs ys → Differs (us ++ xs) (us ++ ys)
differs_after [] xs ys differs = differs
differs_after (u ∷ us) xs ys differs = later u u (us ++ xs) (us ++ ys) (refl, refl) (differs_after us xs ys differs)

-- what both begin with is no difference
differs_cancel : (us xs ys : List Node) → Differs (us ++ xs) (us ++ ys) → Differs xs ys
differs_cancel [] xs ys differs = differs
differs_cancel (u ∷ us) xs ys (now _ _ _ _ less) = absurd (not_before u less)
differs_cancel (u ∷ us) xs ys (later _ _ _ _ same rest) = differs_cancel us xs ys rest

pub AtMost-differs : (xs ys : List Node) → length xs ≡ length ys → Differs xs ys → AtMost xs ys
AtMost-differs _ _ same (now x y xs ys less) = before x y xs ys less (omega arith)
AtMost-differs _ _ same (later x y xs ys equal rest) = alike x y xs ys equal (AtMost-differs xs ys (omega arith) rest)

-- ---- the entries that links add

entries_child : (graph : FlowGraph) (z c : Trace) (es : List Node) → IsMadeFrom graph z c es → entries_of c ≡ entries_of z ++ es
entries_child graph _ _ _ (by_step x y step) = sym (append_assoc x.down x.way (y ∷ []))
entries_child graph _ _ _ (by_call x b enter) = append-nil ((x.down ++ x.way) ++ b ∷ [])
entries_child graph _ _ _ (by_return c e b y enter leave) = sym (append_assoc c.down c.way (b ∷ (e.way ++ y ∷ [])))

pub entries_below : (graph : FlowGraph) (z t : Trace) (es : List Node) → IsBelow graph z t es → entries_of t ≡ entries_of z ++ es
entries_below graph _ _ _ (itself t) = sym (append-nil (entries_of t))
entries_below graph _ _ _ (through z c t es rest child below) =
    entries_below graph c t rest below ∙ ap (λ l. l ++ rest) (entries_child graph z c es child) ∙ append_assoc (entries_of z) es rest

entries_past : (graph : FlowGraph) (z c t : Trace) (es rest : List Node) → IsMadeFrom graph z c es → IsBelow graph c t rest
    → entries_of t ≡ entries_of z ++ (es ++ rest)
entries_past graph z c t es rest child below = entries_below graph z t (es ++ rest) (through z c t es rest child below)

differs_at : (p q : Trace) (us xs ys : List Node) → entries_of p ≡ us ++ xs → entries_of q ≡ us ++ ys
    → Differs xs ys → Differs (entries_of p) (entries_of q)
differs_at p q us xs ys left right differs =
    subst (λ l. Differs l (entries_of q)) (sym left) (subst (Differs (us ++ xs)) (sym right) (differs_after us xs ys differs))

-- and back to what comes after the common beginning
differs_past : (ps qs us xs ys : List Node) → ps ≡ us ++ xs → qs ≡ us ++ ys → Differs ps qs
    → Differs xs ys
differs_past ps qs us xs ys left right differs =
    differs_cancel us xs ys (subst (λ l. Differs l (us ++ ys)) left (subst (Differs ps) right differs))

pub Differs-judged : (graph : FlowGraph) (p q : Trace) → Judged graph p q
    → Differs (entries_of p) (entries_of q)
Differs-judged graph _ _ (apart z a b p q x y es es' rest rest' left below right below' less) =
    differs_at p q (entries_of z) (x ∷ (es ++ rest)) (y ∷ (es' ++ rest')) (entries_past graph z a p (x ∷ es) rest left below)
    (entries_past graph z b q (y ∷ es') rest' right below') (now x y (es ++ rest) (es' ++ rest') less)
Differs-judged graph _ _ (in_through z p e q b y rest rest' enter below leave below' same judged) =
    let inner = differs_past (entries_of p) (entries_of e) ((entries_of z) ++ b ∷ []) rest e.way
    (entries_below graph (trace_in z b) p rest below ∙ ap (λ l. l ++ rest) (append-nil ((entries_of z) ++ b ∷ []))) (ap (λ d. d ++ e.way) same)
    (Differs-judged graph p e judged) in
    differs_at p q (entries_of z) (b ∷ rest) (b ∷ ((e.way ++ y ∷ []) ++ rest'))
    (entries_past graph z (trace_in z b) p (b ∷ []) rest (by_call z b enter) below)
    (entries_past graph z (trace_back z e b y) q (b ∷ (e.way ++ y ∷ [])) rest' (by_return z e b y enter leave) below')
    (later b b rest ((e.way ++ y ∷ []) ++ rest') (refl, refl)
    (subst (Differs rest) (sym (append_assoc e.way (y ∷ []) rest'))
    (subst (λ l. Differs l (e.way ++ y ∷ rest')) (append-nil rest) (differs_more rest e.way [] (y ∷ rest') inner))))
Differs-judged graph _ _ (through_in z p e q b y rest rest' enter below' leave below same judged) =
    let inner = differs_past (entries_of e) (entries_of q) ((entries_of z) ++ b ∷ []) e.way rest' (ap (λ d. d ++ e.way) same)
    (entries_below graph (trace_in z b) q rest' below' ∙ ap (λ l. l ++ rest') (append-nil ((entries_of z) ++ b ∷ [])))
    (Differs-judged graph e q judged) in
    differs_at p q (entries_of z) (b ∷ ((e.way ++ y ∷ []) ++ rest)) (b ∷ rest')
    (entries_past graph z (trace_back z e b y) p (b ∷ (e.way ++ y ∷ [])) rest (by_return z e b y enter leave) below)
    (entries_past graph z (trace_in z b) q (b ∷ []) rest' (by_call z b enter) below')
    (later b b ((e.way ++ y ∷ []) ++ rest) rest' (refl, refl)
    (subst (λ l. Differs l rest') (sym (append_assoc e.way (y ∷ []) rest))
    (subst (Differs (e.way ++ y ∷ rest)) (append-nil rest') (differs_more e.way rest' (y ∷ rest) [] inner))))
Differs-judged graph _ _ (through_both z p q e f b y w rest rest' enter leave below leave' below' same judged) =
    let inner = differs_past (entries_of e) (entries_of f) e.down e.way f.way refl (ap (λ d. d ++ f.way) (sym same))
    (Differs-judged graph e f judged) in
    differs_at p q (entries_of z) (b ∷ ((e.way ++ y ∷ []) ++ rest)) (b ∷ ((f.way ++ w ∷ []) ++ rest'))
    (entries_past graph z (trace_back z e b y) p (b ∷ (e.way ++ y ∷ [])) rest (by_return z e b y enter leave) below)
    (entries_past graph z (trace_back z f b w) q (b ∷ (f.way ++ w ∷ [])) rest' (by_return z f b w enter leave') below')
    (later b b ((e.way ++ y ∷ []) ++ rest) ((f.way ++ w ∷ []) ++ rest') (refl, refl)
    (subst (λ l. Differs l ((f.way ++ w ∷ []) ++ rest')) (sym (append_assoc e.way (y ∷ []) rest))
    (subst (Differs (e.way ++ y ∷ rest)) (sym (append_assoc f.way (w ∷ []) rest')) (differs_more e.way f.way (y ∷ rest) (w ∷ rest') inner))))
