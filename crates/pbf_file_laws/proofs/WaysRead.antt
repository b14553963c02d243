-- Ways are read.
use Rattle.std.proofs.Common.{◌≡◌, ◌∙◌, ℕ, suc, pos, List, [], ◌∷◌, length, Some, None, Ok, true, refl, ap}
use Rattle.std.specs.Prelude.{◌==◌}
use Rattle.std.proofs.lemmas.Bool.{eq-eqb}
use Rattle.gh_base.specs.declared.map.OsmTag.{OsmTag}
use Rattle.gh_base.specs.declared.map.OsmWay.{OsmWay}
use Rattle.pbf_wire.specs.declared.messages.Way.{Way}
use Rattle.pbf_wire.specs.Ways.{way_of, way_with, tags_of}
use Rattle.pbf_file_laws.specs.Saying.{differences}
use Rattle.pbf_file_laws.specs.Reading.{Stands}
use Rattle.pbf_file_laws.specs.Ways.{AreTags, IsWay, WaysAreRead}
use Rattle.pbf_file_laws.proofs.Runs.{message_read}
use Rattle.pbf_file_laws.proofs.Says.{scalar_read, list_read}
use Rattle.pbf_file_laws.proofs.Numbers.{int64_read, short_id, ids_read}

tags_read : (place : ℕ) (texts : List (List ℕ)) (keys values : List ℕ) (tags : List OsmTag) → AreTags texts keys values tags → tags_of place texts keys values ≡ Ok tags
tags_read place texts [] [] [] h = refl
tags_read place texts [] [] (tag ∷ tags) h = absurd h
tags_read place texts [] (value ∷ values) tags h = absurd h
tags_read place texts (key ∷ keys) [] tags h = absurd h
tags_read place texts (key ∷ keys) (value ∷ values) [] h = absurd h
tags_read place texts (key ∷ keys) (value ∷ values) (tag ∷ tags) h = rw (h.0, h.1, tags_read place texts keys values tags h.2) refl

even : (texts : List (List ℕ)) (keys values : List ℕ) (tags : List OsmTag) → AreTags texts keys values tags → length keys ≡ length values
even texts [] [] tags h = refl
even texts [] (value ∷ values) [] h = absurd h
even texts [] (value ∷ values) (tag ∷ tags) h = absurd h
even texts (key ∷ keys) [] [] h = absurd h
even texts (key ∷ keys) [] (tag ∷ tags) h = absurd h
even texts (key ∷ keys) (value ∷ values) [] h = absurd h
even texts (key ∷ keys) (value ∷ values) (tag ∷ tags) h = ap suc (even texts keys values tags h.2)

way_is : (texts : List (List ℕ)) (bytes content : List ℕ) (at : ℕ) (way : OsmWay) → Stands bytes at content → (h : IsWay texts content way) →
    way_of bytes at ≡ record { place = at; id = Some h.id; keys = h.keys; values = h.values; refs = differences (pos 0) way.refs; bad = None }
unfolding way_of
way_is texts bytes content at way stands h =
    let run = message_read bytes content at h.entries stands h.written in
    let id = scalar_read bytes 1 run.spots h.entries run.are ∙ h.id_says in
    let keys = list_read bytes 2 run.spots h.entries h.keys run.are h.keys_say in
    let values = list_read bytes 3 run.spots h.entries h.values run.are h.values_say in
    let refs = list_read bytes 8 run.spots h.entries _ run.are h.refs in
    rw (run.read, id, keys, values, refs) refl

way_says : (texts : List (List ℕ)) (content : List ℕ) (at : ℕ) (way : OsmWay) → (h : IsWay texts content way) →
    way_with texts (record { place = at; id = Some h.id; keys = h.keys; values = h.values; refs = differences (pos 0) way.refs; bad = None }) ≡ Ok way
unfolding way_with
way_says texts content at way h =
    let same : (length h.keys == length h.values) ≡ true = eq-eqb (length h.keys) (length h.values) (even texts h.keys h.values way.tags h.tags) in
    rw (same, tags_read at texts h.keys h.values way.tags h.tags, int64_read h.id way.id h.id_is, short_id way.id h.short, ids_read at (pos 0) way.refs h.refs_short) refl

pub way_read : WaysAreRead
way_read texts bytes content at way stands h =
    let is = way_is texts bytes content at way stands h in
    (ap (λ (w : Way). w.bad) is, ap (way_with texts) is ∙ way_says texts content at way h)
