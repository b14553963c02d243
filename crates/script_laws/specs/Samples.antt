-- Replies and entries, each with its text.
use Rattle.std.specs.Prelude.{◌≡◌, ℕ, ℤ, pos, negsuc, Bool, true, false, List, [], ◌∷◌, ◌++◌, Some, None, map, codes}
use Rattle.gh_base.specs.declared.edges.DirEdge.{DirEdge}
use Rattle.gh_base.specs.declared.edges.Hop.{Hop}
use Rattle.gh_base.specs.declared.kinds.JsonKind.{JsonKind}
use Rattle.gh_base.specs.declared.kinds.JsonKind.TheVariants as json
use Rattle.gh_base.specs.declared.kinds.ModelKind.{ModelKind}
use Rattle.gh_base.specs.declared.kinds.ModelKind.TheVariants as model
use Rattle.gh_base.specs.declared.kinds.Part.{Part}
use Rattle.gh_base.specs.declared.kinds.Part.TheVariants as part
use Rattle.gh_base.specs.declared.kinds.Place3.{Place3}
use Rattle.gh_base.specs.declared.query.Vehicle.TheVariants.{Bike}
use Rattle.model_eval.specs.Models.{no_model}
use Rattle.weighting.specs.declared.profile.Profile.{Profile}
use Rattle.weighting.specs.Profiles.{car_profile}
use Rattle.script_text.specs.declared.reply.Reply.{Reply}
use Rattle.script_text.specs.declared.reply.Reply.TheVariants as reply
use Rattle.script_text.specs.declared.noted.Noted.{Noted}
use Rattle.script_text.specs.declared.noted.Noted.TheVariants as noted
use Rattle.script_text.specs.Entries.{entry_line}
use Rattle.script_text.specs.Replies.{reply_line}

abbrev pub edge : ℕ → Bool → DirEdge
edge number reverse = record { edge = record { 0 = number }; reverse = reverse }

abbrev pub hop : DirEdge → Hop
hop by = record { to = record { 0 = 9 }; by = by; weight = Some 8 }

abbrev pub place : Part → ℕ → ℕ → Place3
place p item byte = record { part = p; item = item; byte = byte }

-- each reply with its words
abbrev pub replies : List (Reply × List ℕ)
replies =
    (reply.Route 70 600 5 (hop (edge 0 false) ∷ hop (edge 12 true) ∷ []), codes "route 70 600 5 0+ 12-") ∷
    (reply.Route 0 0 1 [], codes "route 0 0 1") ∷
    (reply.Labels 7 (Some 0 ∷ None ∷ Some 7 ∷ []), codes "labels 7 0 - 7") ∷
    (reply.NoRoute 3, codes "noroute 3") ∷
    (reply.Overflow 9007199254740992, codes "overflow 9007199254740992") ∷
    (reply.NoSnap 2, codes "nosnap 2") ∷
    (reply.NoNode (negsuc 4), codes "nonode -5") ∷
    (reply.Taken, codes "taken") ∷
    (reply.BadJson 3 json.End, codes "badjson 3 End") ∷
    (reply.BadJson 3 json.Byte, codes "badjson 3 Byte") ∷
    (reply.BadJson 3 json.Utf8, codes "badjson 3 Utf8") ∷
    (reply.BadJson 3 json.Escape, codes "badjson 3 Escape") ∷
    (reply.BadJson 3 json.TooLong, codes "badjson 3 TooLong") ∷
    (reply.BadJson 3 json.TwiceKey, codes "badjson 3 TwiceKey") ∷
    (reply.BadJson 3 json.Depth, codes "badjson 3 Depth") ∷
    (reply.BadJson 3 json.After, codes "badjson 3 After") ∷
    (reply.BadModel (place part.Top 0 0) model.NotObject, codes "badmodel top 0 0 NotObject") ∷
    (reply.BadModel (place part.Top 0 0) model.UnknownKey, codes "badmodel top 0 0 UnknownKey") ∷
    (reply.BadModel (place part.Areas 0 0) model.NotList, codes "badmodel areas 0 0 NotList") ∷
    (reply.BadModel (place part.Speed 2 0) model.Statement, codes "badmodel speed 2 0 Statement") ∷
    (reply.BadModel (place part.Priority 1 0) model.NoIf, codes "badmodel priority 1 0 NoIf") ∷
    (reply.BadModel (place part.Speed 1 4) model.Condition, codes "badmodel speed 1 4 Condition") ∷
    (reply.BadModel (place part.Speed 1 4) model.Name, codes "badmodel speed 1 4 Name") ∷
    (reply.BadModel (place part.Influence 0 0) model.Number, codes "badmodel distance_influence 0 0 Number") ∷
    (reply.BadModel (place part.Areas 1 0) model.Feature, codes "badmodel areas 1 0 Feature") ∷
    (reply.BadModel (place part.Areas 2 0) model.TwiceId, codes "badmodel areas 2 0 TwiceId") ∷
    (reply.BadModel (place part.Areas 1 0) model.Geometry, codes "badmodel areas 1 0 Geometry") ∷
    (reply.BadModel (place part.Areas 1 0) model.Ring, codes "badmodel areas 1 0 Ring") ∷
    (reply.BadModel (place part.Areas 1 0) model.Position, codes "badmodel areas 1 0 Position") ∷
    (reply.BadModel (place part.Speed 0 0) model.TooMany, codes "badmodel speed 0 0 TooMany") ∷
    (reply.Speeds (record { part = part.Priority; item = 2; value = 1500000 }), codes "speeding priority 2 1500000") ∷
    (reply.Lowered, codes "lowered") ∷
    (reply.NotLower 10000, codes "notlower 10000") ∷
    (reply.NoSuchEdge, codes "nosuchedge") ∷
    (reply.JournalFull, codes "journalfull") ∷
    (reply.Restored, codes "restored") ∷
    (reply.NotHigher 10000, codes "nothigher 10000") ∷
    (reply.OverBase 100000, codes "overbase 100000") ∷
    (reply.Prepared 4, codes "prepared 4") ∷
    (reply.NoLandmark, codes "nolandmark") ∷
    (reply.Published, codes "published") ∷
    (reply.Nothing, codes "nothing") ∷
    (reply.NotInForce (edge 3 true) 50000 60000, codes "notinforce 3- 50000 60000") ∷ []

-- an actor's name, its command's number and the number of entries stand before the reply, and a newline ends the line
abbrev pub RepliesAreSo : Type 0
RepliesAreSo = map (λ (r : Reply × List ℕ). reply_line (codes "ann") 12 3 r.0) replies ≡ map (λ (r : Reply × List ℕ). codes "ann 12 3 " ++ (r.1 ++ 10 ∷ [])) replies

abbrev pub two_profiles : List Profile
two_profiles = car_profile ∷ record { name = codes "slow"; vehicle = Bike; model = no_model } ∷ []

-- each entry with its words
abbrev pub entries : List (Noted × List ℕ)
entries =
    (noted.Lower (edge 7 false) 30500, codes "lower 7+ 30500") ∷
    (noted.Restore (edge 7 true) 30000, codes "restore 7- 30000") ∷
    (noted.Publish 0, codes "publish car") ∷
    (noted.Publish 1, codes "publish slow") ∷ []

-- its place in the journal, the actor's name and the command's number stand before the entry
abbrev pub EntriesAreSo : Type 0
EntriesAreSo = map (λ (e : Noted × List ℕ). entry_line two_profiles 3 (codes "ann") 12 e.0) entries ≡ map (λ (e : Noted × List ℕ). codes "3 ann 12 " ++ (e.1 ++ 10 ∷ [])) entries
