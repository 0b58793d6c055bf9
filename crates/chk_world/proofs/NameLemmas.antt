-- Names are read back as they are spelled.
use Rattle.std.proofs.Common.{◌≡◌, ℕ, ◌^◌, ◌<◌, Bool, true, false, ◌&&◌, List, [], ◌∷◌, ◌++◌, Option, Some, None, length, decimal, refl, ap, sym, ◌∙◌, bytes_eq, eqb, true≢false, if◌then◌else◌, arith}
use Rattle.std.specs.Prelude.{IsTrue, codes}
use Rattle.std.specs.Str.Parse.{digits_value}
use Rattle.std.proofs.lemmas.Fmt.{digits_decimal, digits_value-decimal}
use Rattle.std.proofs.lemmas.List.{append_assoc}
use Rattle.std.proofs.lemmas.Bool.{and_parts, and_from, ltb-true, cond-true}
use Rattle.chk_bytes.specs.Numbers.{limit}
use Rattle.chk_bytes.specs.Words.{parts_at, before_end, behind_front}
use Rattle.chk_bytes.specs.Stems.{Stem, is_stem, is_count, stem_text, stem_of_parts, read_stem}
use Rattle.chk_bytes.proofs.DecimalLemmas.{all_digits}
use Rattle.chk_bytes.proofs.SpellingLemmas.{spelling-Some}
use Rattle.chk_bytes.proofs.StemLemmas.{read_stem-stem_text}
use Rattle.chk_world.specs.Names.{Folder, ArchiveFolder, DemuxFolder, JoinedFolder, Name, BornFile, SinkFile, MarkFile, DoneFile, CheckFile, BookFile, SegmentFile, Temporary, OtherFile, folder_text, spell, is_plain_name, is_known, picked, guessed_stem, guessed_sink, guessed_job_file, guessed_name, if_spelled, read}
use Rattle.chk_world.proofs.Ends.{bytes_same, bytes_self, before_end-append, behind_front-append, before_end-other, before_end-digits}

-- a text below `sinks` that ends so isn't another kind of file
stem_back : (x : Stem) → IsTrue (is_stem x) → guessed_stem (stem_text x) ≡ x
unfolding read_stem
stem_back x h = (spelling-Some is_stem stem_text (stem_of_parts (parts_at 46 (stem_text x))) x (stem_text x) (read_stem-stem_text x h)).0

count_small : (n : ℕ) → IsTrue (is_count n) → n < 2 ^ 63
count_small n h = ltb-true n limit (and_parts _ _ h).1

count_back : (n : ℕ) → IsTrue (is_count n) → digits_value 10 (decimal n) ≡ n
count_back n h = digits_value-decimal all_digits n (omega (arith, count_small n h))

-- two parts: what stands before one ending, and not before another
pub other_end : (front : List ℕ) (b : ℕ) (text end : List ℕ) (e : ℕ) → eqb b e ≡ false
    → before_end (front ++ b ∷ []) (text ++ (end ++ e ∷ [])) ≡ None
other_end front b text end e apart =
    before_end-other front b (text ++ end) e (text ++ (end ++ e ∷ [])) (sym (append_assoc text end (e ∷ []))) apart

pub picked_some : {A : Type 0} (make : List ℕ → A) (o : Option (List ℕ)) (t : List ℕ) (next : A) → o ≡ Some t → picked make o next ≡ make t
picked_some make o t next e = ap (λ o. picked make o next) e

pub picked_none : {A : Type 0} (make : List ℕ → A) (o : Option (List ℕ)) (next : A) → o ≡ None → picked make o next ≡ next
picked_none make o next e = ap (λ o. picked make o next) e

-- the kinds of files of `sinks` in the order in which they are tried
abbrev try_born : List ℕ → Name
try_born text = picked BornFile (before_end (codes ".born") text) (OtherFile text)

abbrev try_done : List ℕ → Name
try_done text = picked (λ t. DoneFile (guessed_stem t)) (before_end (codes ".done") text) (try_born text)

abbrev try_mark : List ℕ → Name
try_mark text = picked (λ t. MarkFile (guessed_stem t)) (before_end (codes ".mark") text) (try_done text)

abbrev try_sink : List ℕ → Name
try_sink text = picked (λ t. SinkFile (guessed_stem t)) (before_end (codes ".chukwa") text) (try_mark text)

sink_tried : (x : Stem) → IsTrue (is_stem x) → try_sink (stem_text x ++ codes ".chukwa") ≡ SinkFile x
sink_tried x h =
    let w = stem_text x ++ codes ".chukwa" in
    picked_some (λ t. SinkFile (guessed_stem t)) (before_end (codes ".chukwa") w) (stem_text x) (try_mark w)
    (before_end-append (stem_text x) (codes ".chukwa"))
    ∙ ap SinkFile (stem_back x h)

not_sink : (text end : List ℕ) (e : ℕ) → eqb 97 e ≡ false → try_sink (text ++ (end ++ e ∷ [])) ≡ try_mark (text ++ (end ++ e ∷ []))
not_sink text end e apart =
    let w = text ++ (end ++ e ∷ []) in
    picked_none (λ t. SinkFile (guessed_stem t)) (before_end (codes ".chukwa") w) (try_mark w) (other_end (codes ".chukw") 97 text end e apart)

not_mark : (text end : List ℕ) (e : ℕ) → eqb 107 e ≡ false → try_mark (text ++ (end ++ e ∷ [])) ≡ try_done (text ++ (end ++ e ∷ []))
not_mark text end e apart =
    let w = text ++ (end ++ e ∷ []) in
    picked_none (λ t. MarkFile (guessed_stem t)) (before_end (codes ".mark") w) (try_done w) (other_end (codes ".mar") 107 text end e apart)

not_done : (text end : List ℕ) (e : ℕ) → eqb 101 e ≡ false → try_done (text ++ (end ++ e ∷ [])) ≡ try_born (text ++ (end ++ e ∷ []))
not_done text end e apart =
    let w = text ++ (end ++ e ∷ []) in
    picked_none (λ t. DoneFile (guessed_stem t)) (before_end (codes ".done") w) (try_born w) (other_end (codes ".don") 101 text end e apart)

mark_tried : (x : Stem) → IsTrue (is_stem x) → try_sink (stem_text x ++ codes ".mark") ≡ MarkFile x
mark_tried x h =
    let w = stem_text x ++ codes ".mark" in
    not_sink (stem_text x) (codes ".mar") 107 refl
    ∙ picked_some (λ t. MarkFile (guessed_stem t)) (before_end (codes ".mark") w) (stem_text x) (try_done w)
    (before_end-append (stem_text x) (codes ".mark"))
    ∙ ap MarkFile (stem_back x h)

done_tried : (x : Stem) → IsTrue (is_stem x) → try_sink (stem_text x ++ codes ".done") ≡ DoneFile x
done_tried x h =
    let w = stem_text x ++ codes ".done" in
    not_sink (stem_text x) (codes ".don") 101 refl
    ∙ not_mark (stem_text x) (codes ".don") 101 refl
    ∙ picked_some (λ t. DoneFile (guessed_stem t)) (before_end (codes ".done") w) (stem_text x) (try_born w)
    (before_end-append (stem_text x) (codes ".done"))
    ∙ ap DoneFile (stem_back x h)

born_tried : (c : List ℕ) → try_sink (c ++ codes ".born") ≡ BornFile c
born_tried c =
    let w = c ++ codes ".born" in
    not_sink c (codes ".bor") 110 refl
    ∙ not_mark c (codes ".bor") 110 refl
    ∙ not_done c (codes ".bor") 110 refl
    ∙ picked_some BornFile (before_end (codes ".born") w) c (OtherFile w) (before_end-append c (codes ".born"))

-- the folders in the order in which they are tried
abbrev try_joined : List ℕ → Name
try_joined w = picked (guessed_job_file JoinedFolder) (behind_front (codes "joined/") w) (OtherFile w)

abbrev try_demux : List ℕ → Name
try_demux w = picked (guessed_job_file DemuxFolder) (behind_front (codes "demux/") w) (try_joined w)

abbrev try_archive : List ℕ → Name
try_archive w = picked (guessed_job_file ArchiveFolder) (behind_front (codes "archive/") w) (try_demux w)

abbrev try_agents : List ℕ → Name
try_agents w =
    picked (λ t. picked CheckFile (before_end (codes ".check") t) (OtherFile w)) (behind_front (codes "agents/") w) (try_archive w)

in_sinks : (t : List ℕ) → guessed_name (codes "sinks/" ++ t) ≡ try_sink t
in_sinks t =
    let w = codes "sinks/" ++ t in
    picked_some guessed_sink (behind_front (codes "sinks/") w) t (try_agents w) (behind_front-append (codes "sinks/") t)

pub in_agents : (source : List ℕ) → guessed_name (codes "agents/" ++ (source ++ codes ".check")) ≡ CheckFile source
in_agents source =
    let t = source ++ codes ".check" in
    let w = codes "agents/" ++ t in
    picked_some (λ t. picked CheckFile (before_end (codes ".check") t) (OtherFile w)) (behind_front (codes "agents/") w) t (try_archive w)
    (behind_front-append (codes "agents/") t)
    ∙ picked_some CheckFile (before_end (codes ".check") t) source (OtherFile w) (before_end-append source (codes ".check"))

in_folder : (f : Folder) (t : List ℕ) → guessed_name (folder_text f ++ 47 ∷ t) ≡ guessed_job_file f t
in_folder ArchiveFolder t = let w = codes "archive/" ++ t in
    picked_some (guessed_job_file ArchiveFolder) (behind_front (codes "archive/") w) t (try_demux w) (behind_front-append (codes "archive/") t)
in_folder DemuxFolder t = let w = codes "demux/" ++ t in
    picked_some (guessed_job_file DemuxFolder) (behind_front (codes "demux/") w) t (try_joined w) (behind_front-append (codes "demux/") t)
in_folder JoinedFolder t = let w = codes "joined/" ++ t in
    picked_some (guessed_job_file JoinedFolder) (behind_front (codes "joined/") w) t (OtherFile w) (behind_front-append (codes "joined/") t)

segment_tried : (f : Folder) (n : ℕ) → IsTrue (is_count n) → guessed_job_file f (codes "seg." ++ decimal n) ≡ SegmentFile f n
segment_tried f n h =
    picked_some (λ t. SegmentFile f (digits_value 10 t)) (behind_front (codes "seg.") (codes "seg." ++ decimal n)) (decimal n) (BookFile f)
    (behind_front-append (codes "seg.") (decimal n))
    ∙ ap (SegmentFile f) (count_back n h)

-- what a plain name's text would be is that name
guess_back : (n : Name) → IsTrue (is_plain_name n) → guessed_name (spell n) ≡ n
unfolding spell
guess_back (BornFile c) h = in_sinks (c ++ codes ".born") ∙ born_tried c
guess_back (SinkFile x) h = in_sinks (stem_text x ++ codes ".chukwa") ∙ sink_tried x h
guess_back (MarkFile x) h = in_sinks (stem_text x ++ codes ".mark") ∙ mark_tried x h
guess_back (DoneFile x) h = in_sinks (stem_text x ++ codes ".done") ∙ done_tried x h
guess_back (CheckFile source) h = in_agents source
guess_back (BookFile f) h = in_folder f (codes "book")
guess_back (SegmentFile f n) h = in_folder f (codes "seg." ++ decimal n) ∙ segment_tried f n h
guess_back (Temporary n) h = absurd (true≢false (sym h))
guess_back (OtherFile w) h = absurd (true≢false (sym h))

decimal_some : (n : ℕ) (digits : List ℕ) → digits_value 10 digits ≡ n → 0 < n → 0 < length digits
decimal_some n [] e h = omega (arith, e, h)
decimal_some n (d ∷ digits) e h = omega arith

sinks_end : (c end : List ℕ) (e : ℕ) → eqb 112 e ≡ false → before_end (codes ".tmp") (codes "sinks/" ++ (c ++ (end ++ e ∷ []))) ≡ None
sinks_end c end e apart = other_end (codes ".tm") 112 (codes "sinks/" ++ c) end e apart

seg_end : (f : Folder) (n : ℕ) → IsTrue (is_count n) → before_end (codes ".tmp") (folder_text f ++ (codes "/seg." ++ decimal n)) ≡ None
seg_end f n h =
    let some : 0 < n = ltb-true 0 n (and_parts _ _ h).0 in
    ap (before_end (codes ".tmp")) (sym (append_assoc (folder_text f) (codes "/seg.") (decimal n)))
    ∙ before_end-digits (codes ".tm") 112 (folder_text f ++ codes "/seg.") (decimal n) (decimal_some n (decimal n) (count_back n h) some)
    (digits_decimal all_digits n (omega (arith, count_small n h))) refl

-- none of them ends in `.tmp`
not_temporary : (n : Name) → IsTrue (is_plain_name n) → before_end (codes ".tmp") (spell n) ≡ None
unfolding spell
not_temporary (BornFile c) h = sinks_end c (codes ".bor") 110 refl
not_temporary (SinkFile x) h = sinks_end (stem_text x) (codes ".chukw") 97 refl
not_temporary (MarkFile x) h = sinks_end (stem_text x) (codes ".mar") 107 refl
not_temporary (DoneFile x) h = sinks_end (stem_text x) (codes ".don") 101 refl
not_temporary (CheckFile source) h = other_end (codes ".tm") 112 (codes "agents/" ++ source) (codes ".chec") 107 refl
not_temporary (BookFile f) h = other_end (codes ".tm") 112 (folder_text f) (codes "/boo") 107 refl
not_temporary (SegmentFile f n) h = seg_end f n h
not_temporary (Temporary n) h = absurd (true≢false (sym h))
not_temporary (OtherFile w) h = absurd (true≢false (sym h))

if_spelled-same : (n : Name) → IsTrue (is_known n) → if_spelled n (spell n) ≡ n
if_spelled-same n h =
    cond-true (is_known n && bytes_eq (spell n) (spell n)) n (OtherFile (spell n)) (and_from (is_known n) (bytes_eq (spell n) (spell n)) h (bytes_self (spell n)))

plain_back : (n : Name) → IsTrue (is_plain_name n) → IsTrue (is_known n) → read (spell n) ≡ n
unfolding read
plain_back n h k =
    ap (λ g. if_spelled g (spell n))
    (picked_none (λ t. Temporary (guessed_name t)) (before_end (codes ".tmp") (spell n)) (guessed_name (spell n)) (not_temporary n h) ∙ guess_back n h)
    ∙ if_spelled-same n k

-- a name of the program's is read back
pub read-spell : (n : Name) → IsTrue (is_known n) → read (spell n) ≡ n
unfolding read spell
read-spell (Temporary n) h =
    let w = spell n ++ codes ".tmp" in
    ap (λ g. if_spelled g w)
    (picked_some (λ t. Temporary (guessed_name t)) (before_end (codes ".tmp") w) (spell n) (guessed_name w) (before_end-append (spell n) (codes ".tmp"))
    ∙ ap Temporary (guess_back n h))
    ∙ if_spelled-same (Temporary n) h
read-spell (BornFile c) h = plain_back (BornFile c) h h
read-spell (SinkFile x) h = plain_back (SinkFile x) h h
read-spell (MarkFile x) h = plain_back (MarkFile x) h h
read-spell (DoneFile x) h = plain_back (DoneFile x) h h
read-spell (CheckFile source) h = plain_back (CheckFile source) h h
read-spell (BookFile f) h = plain_back (BookFile f) h h
read-spell (SegmentFile f n) h = plain_back (SegmentFile f n) h h
read-spell (OtherFile w) h = absurd (true≢false (sym h))

chosen_so : (b : Bool) (n : Name) (w : List ℕ) → is_known n && bytes_eq (spell n) w ≡ b → spell (if b then n else OtherFile w) ≡ w
unfolding spell
chosen_so true n w e = bytes_same (spell n) w (and_parts (is_known n) (bytes_eq (spell n) w) e).1
chosen_so false n w e = refl

-- a text is spelled as it is read
pub spell-read : (w : List ℕ) → spell (read w) ≡ w
unfolding read
spell-read w = go (picked (λ t. Temporary (guessed_name t)) (before_end (codes ".tmp") w) (guessed_name w))
  where
    go : (n : Name) → spell (if_spelled n w) ≡ w
    go n = chosen_so (is_known n && bytes_eq (spell n) w) n w refl
