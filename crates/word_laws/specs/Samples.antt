-- Command lines that are refused, with one space between their words.
use Rattle.std.specs.Prelude.{◌≡◌, ℕ, List, [], ◌∷◌, ◌++◌, Option, None, map, codes}
use Rattle.gh_base.specs.Parts.{parts_of}
use Rattle.gh_words.specs.Words.{Asked, asked}

-- an option is missing, or all are
abbrev pub missing : List (List ℕ)
missing =
    codes "serve" ∷ codes "serve --map m" ∷ codes "serve --form plain" ∷
    codes "roads --map=m" ∷ codes "roads --form=pbf" ∷
    codes "check --map m" ∷ codes "check --form=pbf" ∷
    codes "convert --map m --form plain" ∷ codes "convert --map=m --to=pbf" ∷ codes "convert --form plain --to=pbf" ∷
    codes "prep --map m --form plain" ∷ codes "prep --map m --count=4" ∷ codes "prep --form=pbf --count 4" ∷
    codes "both --map m --form plain" ∷ codes "both --map m --count=4" ∷ codes "both --form=pbf --count 4" ∷
    codes "turns --map m --form plain" ∷ codes "turns --map m --count=4" ∷ codes "turns --form=pbf --count 4" ∷
    codes "generate" ∷ []

-- an option stands twice
abbrev pub twice : List (List ℕ)
twice =
    codes "serve --map m --form plain --map m" ∷ codes "serve --map m --form plain --form=plain" ∷
    codes "roads --map=m --map=m --form plain" ∷ codes "roads --form pbf --form pbf --map m" ∷
    codes "check --map m --map=m --form pbf" ∷ codes "check --map m --form pbf --form=pbf" ∷
    codes "convert --map m --form plain --to pbf --to pbf" ∷ codes "convert --map=m --form plain --to pbf --map n" ∷
    codes "prep --map m --form plain --count 4 --count 4" ∷ codes "both --count=4 --map m --form plain --count=4" ∷
    codes "turns --count 4 --map m --count 5 --form plain" ∷ codes "generate --size 5 --size 5" ∷ []

-- an option of another command, or of none, or a word that is no option's
abbrev pub strange : List (List ℕ)
strange =
    codes "serve --map m --form plain --to pbf" ∷ codes "serve --map m --form plain --count 4" ∷
    codes "roads --map m --form plain --size=5" ∷ codes "check --map m --form plain --count=4" ∷
    codes "convert --map m --form plain --to pbf --count 4" ∷ codes "prep --map m --form plain --count 4 --to pbf" ∷
    codes "both --map m --form plain --count 4 --size=5" ∷ codes "turns --map m --form plain --count 4 --to=pbf" ∷
    codes "generate --size 5 --map m" ∷
    codes "serve --map m --form plain more" ∷ codes "more serve --map m --form plain" ∷ codes "serve more --map m --form plain" ∷
    codes "serve --map m --form plain --" ∷ codes "serve --map m --form plain -" ∷ codes "serve --map m --form plain -m" ∷
    codes "serve --map m --form plain --help" ∷ codes "serve --help" ∷ codes "serve -h" ∷ codes "serve --version" ∷
    codes "serve --Map m --form plain" ∷ codes "serve --ma m --form plain" ∷ codes "serve -map m --form plain" ∷
    codes "serve --map m n --form plain" ∷ codes "Serve --map m --form plain" ∷ codes "server --map m --form plain" ∷
    codes "help" ∷ codes "--map m --form plain" ∷ codes "" ∷ []

-- a value is empty, or missing, or isn't of its form; as a word of its own a name begins with a minus sign
abbrev pub formless : List (List ℕ)
formless =
    codes "serve --map= --form plain" ∷ codes "serve --map  --form plain" ∷ codes "serve --form plain --map" ∷
    codes "serve --map m --form=" ∷ codes "serve --map m --form" ∷ codes "serve --map m --form Plain" ∷
    codes "roads --map m --form osm" ∷ codes "check --map m --form plainer" ∷ codes "convert --map m --form plain --to xml" ∷
    codes "serve --map -m --form plain" ∷ codes "serve --map - --form plain" ∷ codes "serve --map -- --form plain" ∷ codes "serve --map --form plain" ∷
    codes "generate --size 1" ∷ codes "generate --size 301" ∷ codes "generate --size 05" ∷ codes "generate --size +5" ∷
    codes "generate --size -5" ∷ codes "generate --size=-5" ∷ codes "generate --size 5.0" ∷ codes "generate --size five" ∷ codes "generate --size=" ∷
    codes "prep --map m --form plain --count 0" ∷ codes "prep --map m --form plain --count 17" ∷ codes "prep --map m --form plain --count 04" ∷
    codes "both --map m --form plain --count 0" ∷ codes "both --map m --form plain --count 17" ∷ codes "both --map m --form plain --count=" ∷
    codes "turns --map m --form plain --count 0" ∷ codes "turns --map m --form plain --count 17" ∷ codes "turns --map m --form plain --count 4x" ∷ []

abbrev pub refused : List (List ℕ)
refused = missing ++ (twice ++ (strange ++ formless))

abbrev pub no_request : Option Asked
no_request = None

-- each of them asks for nothing
abbrev pub LinesAreRefused : Type 0
LinesAreRefused = map (λ line. asked (parts_of 32 line)) refused ≡ map (λ line. no_request) refused
