-- The lines of replies: the actor's name, the command's number, the number of entries that it speaks of, and the answer.
use Rattle.std.specs.Prelude.{ℕ, List, [], ◌∷◌, ◌++◌, Option, Some, None, Bool, true, false, codes, decimal}
use Rattle.std.specs.Fmt.{signed_decimal}
use Rattle.gh_base.specs.declared.edges.DirEdge.{DirEdge}
use Rattle.gh_base.specs.declared.edges.Hop.{Hop}
use Rattle.gh_base.specs.declared.kinds.JsonKind.{JsonKind}
use Rattle.gh_base.specs.declared.kinds.ModelKind.{ModelKind}
use Rattle.gh_base.specs.declared.kinds.Place3.{Place3}
use Rattle.model_check.specs.declared.checking.Speeding.{Speeding}
use Rattle.script_text.specs.declared.reply.Reply.{Reply}
use Rattle.script_text.specs.declared.reply.Reply.TheVariants as reply
use Rattle.script_text.specs.Words.{json_word, model_word, part_word}

-- + along the edge, - against it
abbrev pub direction_text : Bool → List ℕ
direction_text false = codes "+"
direction_text true = codes "-"

unfoldable pub edge_text : DirEdge → List ℕ
edge_text e = decimal e.edge.0 ++ direction_text e.reverse

-- a space before each edge of a walk
abbrev pub hops_text : List Hop → List ℕ
hops_text [] = []
hops_text (hop ∷ hops) = codes " " ++ (edge_text hop.by ++ hops_text hops)

-- a label that there is not is -
abbrev pub label_text : Option ℕ → List ℕ
label_text None = codes "-"
label_text (Some n) = decimal n

-- a space before each label
abbrev pub labels_text : List (Option ℕ) → List ℕ
labels_text [] = []
labels_text (label ∷ labels) = codes " " ++ (label_text label ++ labels_text labels)

abbrev pub json_fault_text : ℕ → JsonKind → List ℕ
json_fault_text byte kind = codes "badjson " ++ (decimal byte ++ (codes " " ++ json_word kind))

-- the part, the item in it, the byte and the kind
abbrev pub model_fault_text : Place3 → ModelKind → List ℕ
model_fault_text p kind = codes "badmodel " ++ (part_word p.part ++ (codes " " ++ (decimal p.item ++ (codes " " ++ (decimal p.byte ++ (codes " " ++ model_word kind))))))

-- the part, the item in it, and its value
abbrev pub speeding_text : Speeding → List ℕ
speeding_text s = codes "speeding " ++ (part_word s.part ++ (codes " " ++ (decimal s.item ++ (codes " " ++ decimal s.value))))

-- the weight in ms, the length in mm, the nodes that the search settled, and the edges
abbrev pub route_text : ℕ → ℕ → ℕ → List Hop → List ℕ
route_text weight mm settled hops = codes "route " ++ (decimal weight ++ (codes " " ++ (decimal mm ++ (codes " " ++ (decimal settled ++ hops_text hops)))))

-- the edge, its limit when the preparation was made, and its limit now
abbrev pub change_text : DirEdge → ℕ → ℕ → List ℕ
change_text edge before now = edge_text edge ++ (codes " " ++ (decimal before ++ (codes " " ++ decimal now)))

-- what a reply says
abbrev pub reply_text : Reply → List ℕ
reply_text (reply.Route weight mm settled hops) = route_text weight mm settled hops
reply_text (reply.Labels weight labels) = codes "labels " ++ (decimal weight ++ labels_text labels)
reply_text (reply.NoRoute settled) = codes "noroute " ++ decimal settled
reply_text (reply.Overflow weight) = codes "overflow " ++ decimal weight
reply_text (reply.NoSnap point) = codes "nosnap " ++ decimal point
reply_text (reply.NoNode id) = codes "nonode " ++ signed_decimal id
reply_text reply.Taken = codes "taken"
reply_text (reply.BadJson byte kind) = json_fault_text byte kind
reply_text (reply.BadModel p kind) = model_fault_text p kind
reply_text (reply.Speeds s) = speeding_text s
reply_text reply.Lowered = codes "lowered"
reply_text (reply.NotLower now) = codes "notlower " ++ decimal now
reply_text reply.NoSuchEdge = codes "nosuchedge"
reply_text reply.JournalFull = codes "journalfull"
reply_text reply.Restored = codes "restored"
reply_text (reply.NotHigher now) = codes "nothigher " ++ decimal now
reply_text (reply.OverBase base) = codes "overbase " ++ decimal base
reply_text (reply.Prepared landmarks) = codes "prepared " ++ decimal landmarks
reply_text reply.NoLandmark = codes "nolandmark"
reply_text reply.Published = codes "published"
reply_text reply.Nothing = codes "nothing"
reply_text (reply.NotInForce edge before now) = codes "notinforce " ++ change_text edge before now

-- NAME NUMBER AT ANSWER, and a newline
unfoldable pub reply_line : List ℕ → ℕ → ℕ → Reply → List ℕ
reply_line name number at answer = name ++ (codes " " ++ (decimal number ++ (codes " " ++ (decimal at ++ (codes " " ++ (reply_text answer ++ 10 ∷ []))))))
