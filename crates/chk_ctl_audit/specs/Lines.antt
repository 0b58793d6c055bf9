-- The lines of an audit.
use Rattle.std.specs.Prelude.{ℕ, List, [], ◌∷◌, ◌++◌, codes, decimal, bytes_eq, nat_le}
use Rattle.std.specs.Prelude.{if◌then◌else◌, Option, Some, None}
use Rattle.chk_world.specs.Books.{End}
use Rattle.hex.specs.Hex.{encode_lower}
use Rattle.chk_ctl_audit_log.specs.declared.summing.LogSum.{LogSum}
use Rattle.chk_ctl_audit_log.specs.declared.summing.LogSum.TheVariants.{Whole, Ends}
use Rattle.chk_ctl_sum.specs.Lines.{line_of}

-- what was found, and the words that name the stream
abbrev pub named : List ℕ → List ℕ → List ℕ → List ℕ → List ℕ
named found source kind name =
    found ++ (codes " " ++ (source ++ (codes " " ++ (kind ++ (codes " " ++ name)))))

-- all in front of what follows
abbrev pub front_of : List ℕ → List ℕ → List ℕ → List ℕ → ℕ → ℕ → List ℕ
front_of found source kind name start end =
    named found source kind name
    ++ (codes " start " ++ (decimal start ++ (codes " end " ++ decimal end)))

-- a line: what was found, the stream and its offsets, and the words behind them
abbrev pub line_by : List ℕ → List ℕ → List ℕ → List ℕ → ℕ → ℕ → List (List ℕ) → List ℕ
line_by found source kind name start end rest =
    front_of found source kind name start end ++ (codes " " ++ line_of rest)

-- where the log begins
abbrev pub begins : ℕ → List (List ℕ) → List (List ℕ)
begins begin rest = codes "log" ∷ codes "begins" ∷ codes "at" ∷ decimal begin ∷ rest

-- the digest that both have
abbrev pub same_words : List ℕ → List (List ℕ)
same_words digest = codes "sha256" ∷ encode_lower digest ∷ []

-- the digest of the archive, and that of the log
abbrev pub other_words : List ℕ → List ℕ → List (List ℕ)
other_words digest log =
    codes "archive" ∷ encode_lower digest ∷ codes "log" ∷ encode_lower log ∷ []

-- where the log ends
abbrev pub short_words : ℕ → List (List ℕ)
short_words at = codes "log" ∷ codes "ends" ∷ codes "at" ∷ decimal at ∷ []

-- the line of a stream whose log has the same bytes, from the stream's start on or from where it
-- begins on
abbrev pub same_line : List ℕ → List ℕ → List ℕ → ℕ → ℕ → ℕ → List ℕ → List ℕ
same_line source kind name start end begin digest =
    if nat_le begin start
    then line_by (codes "same") source kind name start end (same_words digest)
    else line_by (codes "PART") source kind name start end (begins begin (same_words digest))

-- the first words where they differ, with the offset, where a second reading found it
abbrev pub differs : Option ℕ → List ℕ
differs None = codes "DIFFERS"
differs (Some at) = codes "DIFFERS at " ++ decimal at

-- the line of one whose log has other bytes, which begins with these words
abbrev pub other_line : List ℕ → List ℕ → List ℕ → List ℕ → ℕ → ℕ → ℕ → List ℕ → List ℕ → List ℕ
other_line words source kind name start end begin digest log =
    line_by words source kind name start end (begins begin (other_words digest log))

-- the line of one whose log ends before the archive
abbrev pub short_line : List ℕ → List ℕ → List ℕ → List ℕ → ℕ → ℕ → ℕ → ℕ → List ℕ
short_line words source kind name start end begin at =
    line_by words source kind name start end (begins begin (short_words at))

-- The line of a stream whose archive has this digest from where its log begins on, by what was
-- found of the log; these are the first words of one that differs.
abbrev pub audit_line : End → ℕ → List ℕ → LogSum → List ℕ → List ℕ
audit_line e begin digest (Whole log) words =
    if bytes_eq log digest
    then same_line e.stream.source e.stream.kind e.stream.name e.start e.end begin digest
    else other_line words e.stream.source e.stream.kind e.stream.name e.start e.end begin digest log
audit_line e begin digest (Ends at) words =
    short_line words e.stream.source e.stream.kind e.stream.name e.start e.end begin at
