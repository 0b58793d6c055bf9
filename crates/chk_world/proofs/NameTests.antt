-- The tests on names and on words agree, at every name of the program's.
use Rattle.std.proofs.Common.{◌≡◌, ℕ, Bool, true, false, ◌&&◌, List, Option, Some, None, option_map, bytes_eq, nat_eq, refl, ap, sym, subst, ◌∙◌, true≢false, if◌then◌else◌, arith}
use Rattle.std.specs.Prelude.{IsTrue}
use Rattle.std.proofs.lemmas.Bool.{and_parts}
use Rattle.chk_bytes.specs.Stems.{Stem, same_stem}
use Rattle.chk_chunk.specs.Keys.{Stream, same_stream}
use Rattle.chk_site.specs.Files.{File, Files, Change, Nothing, Created, Grown, Secured, Moved, Gone, Shortened, LogGrown, LogTurned, LogDropped, made, grown, secured, shortened, moved, changed}
use Rattle.chk_world.specs.Names.{Folder, ArchiveFolder, DemuxFolder, JoinedFolder, Name, BornFile, SinkFile, MarkFile, DoneFile, CheckFile, BookFile, SegmentFile, Temporary, OtherFile, spell, is_known, read, file}
use Rattle.chk_world.proofs.Ends.{bytes_same, bytes_self}
use Rattle.chk_world.proofs.NameLemmas.{read-spell, spell-read}

-- whether two folders are the same
abbrev pub same_folder : Folder → Folder → Bool
same_folder ArchiveFolder ArchiveFolder = true
same_folder DemuxFolder DemuxFolder = true
same_folder JoinedFolder JoinedFolder = true
same_folder _ _ = false

-- whether two names are the same
abbrev pub same_name : Name → Name → Bool
same_name (BornFile c) (BornFile d) = bytes_eq c d
same_name (SinkFile x) (SinkFile y) = same_stem x y
same_name (MarkFile x) (MarkFile y) = same_stem x y
same_name (DoneFile x) (DoneFile y) = same_stem x y
same_name (CheckFile a) (CheckFile b) = bytes_eq a b
same_name (BookFile f) (BookFile g) = same_folder f g
same_name (SegmentFile f n) (SegmentFile g m) = same_folder f g && nat_eq n m
same_name (Temporary n) (Temporary m) = same_name n m
same_name (OtherFile w) (OtherFile v) = bytes_eq w v
same_name _ _ = false

pub nat_same : (a b : ℕ) → nat_eq a b ≡ true → a ≡ b
nat_same a b h = grind arith

pub nat_self : (a : ℕ) → nat_eq a a ≡ true
nat_self a = grind arith

pub stem_self : (x : Stem) → same_stem x x ≡ true
stem_self x = rw (bytes_self x.collector, nat_self x.born, nat_self x.number) refl

pub stem_same : (x y : Stem) → same_stem x y ≡ true → x ≡ y
stem_same x y h =
    let p = and_parts (bytes_eq x.collector y.collector) (nat_eq x.born y.born && nat_eq x.number y.number) h in
    let q = and_parts (nat_eq x.born y.born) (nat_eq x.number y.number) p.1 in
    let a = bytes_same x.collector y.collector p.0 in
    let b = nat_same x.born y.born q.0 in
    let c = nat_same x.number y.number q.1 in
    λ i. record { collector = a i; born = b i; number = c i }

-- streams that the test takes for the same are
pub streams_same : (s t : Stream) → same_stream s t ≡ true → s ≡ t
streams_same s t e =
    let x = and_parts (bytes_eq s.source t.source) (bytes_eq s.kind t.kind && bytes_eq s.name t.name) e in
    let y = and_parts (bytes_eq s.kind t.kind) (bytes_eq s.name t.name) x.1 in
    let a = bytes_same s.source t.source x.0 in
    let b = bytes_same s.kind t.kind y.0 in
    let c = bytes_same s.name t.name y.1 in
    λ i. record { source = a i; kind = b i; name = c i }

-- by whether y is x
pub by_stem : (x y : Stem) (P : Stem → Bool → Type 0) → P x true → ((y ≡ x → ⊥) → P y false) → P y (same_stem x y)
by_stem x y P same other = go (same_stem x y) refl
  where
    go : (b : Bool) → same_stem x y ≡ b → P y b
    go true e = subst (λ z. P z true) (stem_same x y e) same
    go false e = other (λ p. true≢false (sym (stem_self x) ∙ ap (same_stem x) (sym p) ∙ e))

folder_same : (f g : Folder) → same_folder f g ≡ true → f ≡ g
folder_same ArchiveFolder ArchiveFolder e = refl
folder_same DemuxFolder DemuxFolder e = refl
folder_same JoinedFolder JoinedFolder e = refl
folder_same _ _ e = absurd (true≢false (sym e))

folder_self : (f : Folder) → same_folder f f ≡ true
folder_self ArchiveFolder = refl
folder_self DemuxFolder = refl
folder_self JoinedFolder = refl

pub name_same : (n m : Name) → same_name n m ≡ true → n ≡ m
name_same (BornFile a) (BornFile b) e = ap BornFile (bytes_same a b e)
name_same (SinkFile a) (SinkFile b) e = ap SinkFile (stem_same a b e)
name_same (MarkFile a) (MarkFile b) e = ap MarkFile (stem_same a b e)
name_same (DoneFile a) (DoneFile b) e = ap DoneFile (stem_same a b e)
name_same (CheckFile a) (CheckFile b) e = ap CheckFile (bytes_same a b e)
name_same (BookFile f) (BookFile g) e = ap BookFile (folder_same f g e)
name_same (SegmentFile f n) (SegmentFile g m) e =
    let p = and_parts (same_folder f g) (nat_eq n m) e in
    ap (λ h. SegmentFile h n) (folder_same f g p.0) ∙ ap (SegmentFile g) (nat_same n m p.1)
name_same (Temporary a) (Temporary b) e = ap Temporary (name_same a b e)
name_same (OtherFile a) (OtherFile b) e = ap OtherFile (bytes_same a b e)
name_same _ _ e = absurd (true≢false (sym e))

pub name_self : (n : Name) → same_name n n ≡ true
name_self (BornFile a) = bytes_self a
name_self (SinkFile a) = stem_self a
name_self (MarkFile a) = stem_self a
name_self (DoneFile a) = stem_self a
name_self (CheckFile a) = bytes_self a
name_self (BookFile f) = folder_self f
name_self (SegmentFile f n) = rw (folder_self f, nat_self n) refl
name_self (Temporary a) = name_self a
name_self (OtherFile a) = bytes_self a

-- a text is that of a name exactly where it is read as it
pub named_test : (n : Name) → IsTrue (is_known n) → (w : List ℕ) → bytes_eq (spell n) w ≡ same_name n (read w)
named_test n known w = go (same_name n (read w)) (bytes_eq (spell n) w) refl refl
  where
    go : (a b : Bool) → same_name n (read w) ≡ a → bytes_eq (spell n) w ≡ b → b ≡ a
    go true true p q = refl
    go false false p q = refl
    go true false p q =
        absurd (true≢false (sym (bytes_self w) ∙ (ap (λ t. bytes_eq t w) (sym (spell-read w)) ∙ (ap (λ m. bytes_eq (spell m) w) (sym (name_same n (read w) p)) ∙ q))))
    go false true p q =
        absurd (true≢false (sym (name_self n) ∙ (ap (same_name n) (sym (read-spell n known) ∙ ap read (bytes_same (spell n) w q)) ∙ p)))

-- ---- a change by names

-- the files by name
abbrev pub Named : Type 0
Named = Name → Option File

-- what a change does to named files
pub data Doing : Type 0 where
  Looks : Doing
  Makes : Name → Doing
  Grows : Name → List ℕ → Doing
  Secures : Name → Doing
  Moves : Name → Name → Doing
  Drops : Name → Doing
  Shortens : Name → ℕ → Doing

-- a change of words, by the names that they are read as
abbrev pub named : Change → Doing
named Nothing = Looks
named (Created w) = Makes (read w)
named (Grown w piece) = Grows (read w) piece
named (Secured w) = Secures (read w)
named (Moved old new) = Moves (read old) (read new)
named (Gone w) = Drops (read w)
named (Shortened w n) = Shortens (read w) n
named (LogGrown path piece) = Looks
named (LogTurned path suffix) = Looks
named (LogDropped path suffix) = Looks

-- a file under its new name, and no more under its old one
abbrev pub moved_named : Option File → Name → Name → Named → Named
moved_named None old new files n = files n
moved_named (Some f) old new files n = if same_name n new then Some f else if same_name n old then None else files n

-- the named files after it
abbrev pub applied : Doing → Named → Named
applied Looks files n = files n
applied (Makes m) files n = if same_name n m then made (files n) else files n
applied (Grows m piece) files n = if same_name n m then option_map (grown piece) (files n) else files n
applied (Secures m) files n = if same_name n m then option_map secured (files n) else files n
applied (Moves old new) files n = moved_named (files old) old new files n
applied (Drops m) files n = if same_name n m then None else files n
applied (Shortens m k) files n = if same_name n m then option_map (shortened k) (files n) else files n

-- the files that words and names tell of are the same
pub bridge : (did : Change) (files : Files) (n : Name) → IsTrue (is_known n) → file (changed did files) n ≡ applied (named did) (file files) n
bridge Nothing files n known = refl
bridge (Created w) files n known = ap (λ b. if b then made (file files n) else file files n) (named_test n known w)
bridge (Grown w piece) files n known = ap (λ b. if b then option_map (grown piece) (file files n) else file files n) (named_test n known w)
bridge (Secured w) files n known = ap (λ b. if b then option_map secured (file files n) else file files n) (named_test n known w)
bridge (Moved old new) files n known = go (files old) (ap files (spell-read old))
  where
    go : (o : Option File) → file files (read old) ≡ o → moved o old new files (spell n) ≡ moved_named (file files (read old)) (read old) (read new) (file files) n
    go None e = ap (λ o. moved_named o (read old) (read new) (file files) n) (sym e)
    go (Some f) e =
        ap (λ b. if b then Some f else if bytes_eq (spell n) old then None else file files n) (named_test n known new)
        ∙ ap (λ b. if same_name n (read new) then Some f else if b then None else file files n) (named_test n known old)
        ∙ ap (λ o. moved_named o (read old) (read new) (file files) n) (sym e)
bridge (Gone w) files n known = ap (λ b. if b then None else file files n) (named_test n known w)
bridge (Shortened w k) files n known = ap (λ b. if b then option_map (shortened k) (file files n) else file files n) (named_test n known w)
bridge (LogGrown path piece) files n known = refl
bridge (LogTurned path suffix) files n known = refl
bridge (LogDropped path suffix) files n known = refl
