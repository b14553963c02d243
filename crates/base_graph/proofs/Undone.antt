-- What is put behind a list and taken off again leaves all as before.
use Rattle.std.proofs.Common.{◌≡◌, ℕ, ◌-◌, ◌<◌, List, [], ◌∷◌, ◌++◌, length, get_or, set, take, refl, ap, ◌∙◌, arith}
use Rattle.std.proofs.lemmas.List.{get_or-set_same, set-set, set-get_or, take_at, length_push}
use Rattle.gh_base.specs.declared.edges.DirEdge.{DirEdge}
use Rattle.base_graph.specs.Graphs.{put_at}

pub undone : (before now : List (List DirEdge)) (n k : ℕ) (by : DirEdge) (was inside new : List DirEdge)
    → n < length before → now ≡ put_at before n by → was ≡ get_or now n was → inside ≡ was → k ≡ length inside → new ≡ take (k - 1) inside
    → set now n new ≡ before
undone before now n k by was inside new h e at view len rest =
    let x = get_or before n [] in
    let there : get_or now n was ≡ x ++ by ∷ [] = ap (λ l. get_or l n was) e ∙ get_or-set_same before n (x ++ by ∷ []) was h in
    let full : inside ≡ x ++ by ∷ [] = view ∙ at ∙ there in
    let count : k - 1 ≡ length x = let m = length_push x by in let l = ap length full in omega arith in
    let cut : new ≡ x = rest ∙ ap (λ j. take j inside) count ∙ ap (take (length x)) full ∙ take_at x (by ∷ []) (length x) refl in
    ap (λ l. set l n new) e ∙ set-set before n (x ++ by ∷ []) new ∙ ap (set before n) cut ∙ set-get_or before n []
