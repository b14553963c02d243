-- Which points lie in an area (RFC 7946, "Polygon"), and which edges. All by exact fractions. The rule for edges is this
-- project's own.
use Rattle.std.specs.Prelude.{ℕ, ◌+◌, ◌*◌, ◌%◌, ◌==◌, ℤ, ◌-ℤ◌, ◌*ℤ◌, int_lt, int_le, Bool, true, false, ◌&&◌, ◌||◌, cond, if◌then◌else◌, List, [], ◌∷◌, ◌++◌, map, filter, length, Option, Some, None}
use Rattle.std.specs.List.{list_any}
use Rattle.gh_base.specs.declared.map.Point.{Point}
use Rattle.model_eval.specs.declared.custom_model.Area.{Area}

-- a straight line from one point to another
pub record Segment : Type 0 where
  pub start : Point
  pub stop : Point

abbrev pub segments_from : Point → List Point → List Segment
segments_from a [] = []
segments_from a (b ∷ bs) = record { start = a; stop = b } ∷ segments_from b bs

-- between neighbours of a ring
abbrev pub segments : List Point → List Segment
segments [] = []
segments (a ∷ bs) = segments_from a bs

-- the segments of all rings
abbrev pub border : List (List Point) → List Segment
border [] = []
border (ring ∷ rings) = segments ring ++ border rings

-- how far a point lies east of another, and how far north
abbrev pub east : Point → Point → ℤ
east a p = p.lon -ℤ a.lon

abbrev pub north : Point → Point → ℤ
north a p = p.lat -ℤ a.lat

-- neither number is below the other
unfoldable pub is_same : ℤ → ℤ → Bool
is_same x y = int_le x y && int_le y x

-- b and p lie in one line with a: east by north is the same fraction for both
unfoldable pub are_in_line : Point → Point → Point → Bool
are_in_line a b p = is_same (east a p *ℤ north a b) (north a p *ℤ east a b)

unfoldable pub is_between : ℤ → ℤ → ℤ → Bool
is_between a b x = int_le a x && int_le x b || int_le b x && int_le x a

-- the point lies on the segment, its ends among its points
abbrev pub is_on : Point → Segment → Bool
is_on p s =
    are_in_line s.start s.stop p && is_between s.start.lat s.stop.lat p.lat && is_between s.start.lon s.stop.lon p.lon

-- at the point's latitude a segment that goes north from a to b is farther east than the point: it is
-- north a p / north a b of the way to b, so that part of east a b is more than east a p
unfoldable pub lies_west : Point → Point → Point → Bool
lies_west p a b = int_lt (east a p *ℤ north a b) (north a p *ℤ east a b)

-- the ray from the point to growing longitude crosses the segment: one end alone is north of the point
abbrev pub crosses_by : Bool → Bool → Point → Segment → Bool
crosses_by true true p s = false
crosses_by true false p s = lies_west p s.stop s.start
crosses_by false true p s = lies_west p s.start s.stop
crosses_by false false p s = false

abbrev pub crosses : Point → Segment → Bool
crosses p s = crosses_by (int_lt p.lat s.start.lat) (int_lt p.lat s.stop.lat) p s

abbrev pub is_odd : ℕ → Bool
is_odd n = n % 2 == 1

-- whether the ray from the point crosses an odd number of segments; none where the point lies on one
abbrev pub sight : Point → List Segment → Option Bool
sight p ss = if list_any (is_on p) ss then None else Some (is_odd (length (filter (crosses p) ss)))

-- the point lies on a segment of the border, or the ray from it crosses an odd number of them
unfoldable pub is_inside : List (List Point) → Point → Bool
is_inside rings p = list_any (is_on p) (border rings) || is_odd (length (filter (crosses p) (border rings)))

-- some point of a line lies in the area
abbrev pub touches : List Point → Area → Bool
touches points area = list_any (is_inside area.rings) points

-- the number whose binary digits these are, the lowest first
abbrev pub word_of_bits : List Bool → ℕ
word_of_bits [] = 0
word_of_bits (b ∷ bs) = cond b 1 0 + 2 * word_of_bits bs

-- the areas in which a line lies: its bit is set where some point lies in the area
unfoldable pub areas_at : List Area → List Point → ℕ
areas_at areas points = word_of_bits (map (touches points) areas)
