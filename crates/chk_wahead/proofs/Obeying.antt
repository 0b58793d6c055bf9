-- The calls of the buffers obey a writer's rule.
use Rattle.std.proofs.Common.{◌≡◌, ℕ, Bool, false, ◌&&◌, List, ◌∷◌, ◌++◌, codes, Option, Some, None, ap, sym, subst, refl, bytes_eq, if◌then◌else◌}
use Rattle.std.specs.Prelude.{IsTrue}
use Rattle.std.proofs.Math.Bool.{and-false}
use Rattle.chk_bytes.specs.Words.{before_end}
use Rattle.chk_site.specs.declared.acts.Role.TheVariants.{Writer}
use Rattle.chk_site.specs.declared.acts.Who.{Who}
use Rattle.chk_site.specs.declared.acts.ActAnswer.{ActAnswer}
use Rattle.chk_site.specs.Files.{Files}
use Rattle.chk_site.specs.Logs.{Logs}
use Rattle.chk_site.specs.Acts.{Deed, Starts, Creates, Appends, Syncs, Renames, Removes, Cuts, Reads, AsksSize, deed}
use Rattle.chk_site.specs.History.{Step, History, files_after, logs_after}
use Rattle.chk_site.specs.Honest.{Honest}
use Rattle.chk_world.specs.Names.{Name, BornFile, SinkFile, MarkFile, DoneFile, CheckFile, BookFile, SegmentFile, Temporary, OtherFile, ArchiveFolder, DemuxFolder, JoinedFolder, read, spell, guessed_name, picked, if_spelled, is_plain_name}
use Rattle.chk_world.specs.Rules.{Framed, OnlyWritersGrowLogs, OnlyAgentsPost, StartsAfterStop, WriterRule, RoleMay, Obeys, is_named_so}

-- ---- the names are a writer's

-- no other name that this program gives begins with `w`
plain_apart : (m : Name) (x : List ℕ) → (is_plain_name m && bytes_eq (spell m ++ codes ".tmp") (119 ∷ x)) ≡ false
unfolding spell
plain_apart (BornFile c) x = and-false _
plain_apart (SinkFile s) x = and-false _
plain_apart (MarkFile s) x = and-false _
plain_apart (DoneFile s) x = and-false _
plain_apart (CheckFile c) x = and-false _
plain_apart (BookFile ArchiveFolder) x = refl
plain_apart (BookFile DemuxFolder) x = refl
plain_apart (BookFile JoinedFolder) x = refl
plain_apart (SegmentFile ArchiveFolder k) x = and-false _
plain_apart (SegmentFile DemuxFolder k) x = and-false _
plain_apart (SegmentFile JoinedFolder k) x = and-false _
plain_apart (Temporary m) x = refl
plain_apart (OtherFile w) x = refl

next_other : (m : Name) (x : List ℕ) → if_spelled (Temporary m) (119 ∷ x) ≡ OtherFile (119 ∷ x)
unfolding spell
next_other m x = ap (λ (b : Bool). if b then Temporary m else OtherFile (119 ∷ x)) (plain_apart m x)

picked_other : (o : Option (List ℕ)) (x : List ℕ)
    → if_spelled (picked (λ t. Temporary (guessed_name t)) o (OtherFile (119 ∷ x))) (119 ∷ x) ≡ OtherFile (119 ∷ x)
picked_other None x = refl
picked_other (Some t) x = next_other (guessed_name t) x

read_other : (x : List ℕ) → read (119 ∷ x) ≡ OtherFile (119 ∷ x)
unfolding read
read_other x = picked_other (before_end (codes ".tmp") (119 ∷ x)) x

-- the calls on such names, and those that only look
pub data OfWahead : Deed → Type 0 where
  starting : OfWahead Starts
  creating : (x : List ℕ) → OfWahead (Creates (119 ∷ x))
  appending : (x bytes : List ℕ) → OfWahead (Appends (119 ∷ x) bytes)
  syncing : (x : List ℕ) → OfWahead (Syncs (119 ∷ x))
  renaming : (x y : List ℕ) → OfWahead (Renames (119 ∷ x) (119 ∷ y))
  removing : (x : List ℕ) → OfWahead (Removes (119 ∷ x))
  cutting : (x : List ℕ) (n : ℕ) → OfWahead (Cuts (119 ∷ x) n)
  reading : (w : List ℕ) (at max : ℕ) → OfWahead (Reads w at max)
  sizing : (w : List ℕ) → OfWahead (AsksSize w)

framed : (name : List ℕ) (before : Files) (call : Deed) → OfWahead call → Framed (record { role = Writer; name = name }) before call
framed name before call starting = tt
framed name before call (creating x) = rw (read_other x) refl
framed name before call (appending x bytes) = rw (read_other x) refl
framed name before call (syncing x) = rw (read_other x) refl
framed name before call (renaming x y) = rw (read_other x, read_other y) (refl, tt)
framed name before call (removing x) = rw (read_other x) refl
framed name before call (cutting x n) = rw (read_other x) refl
framed name before call (reading w at max) = tt
framed name before call (sizing w) = tt

starts_well : (name : List ℕ) (before : History) (call : Deed) → OfWahead call
    → StartsAfterStop (record { role = Writer; name = name }) before call
starts_well name before call starting = tt
starts_well name before call (creating x) = refl
starts_well name before call (appending x bytes) = refl
starts_well name before call (syncing x) = refl
starts_well name before call (renaming x y) = refl
starts_well name before call (removing x) = refl
starts_well name before call (cutting x n) = refl
starts_well name before call (reading w at max) = refl
starts_well name before call (sizing w) = refl

no_logs : (call : Deed) → OfWahead call → OnlyWritersGrowLogs Writer call
no_logs call starting = tt
no_logs call (creating x) = tt
no_logs call (appending x bytes) = tt
no_logs call (syncing x) = tt
no_logs call (renaming x y) = tt
no_logs call (removing x) = tt
no_logs call (cutting x n) = tt
no_logs call (reading w at max) = tt
no_logs call (sizing w) = tt

no_posts : (call : Deed) → OfWahead call → OnlyAgentsPost Writer call
no_posts call starting = tt
no_posts call (creating x) = tt
no_posts call (appending x bytes) = tt
no_posts call (syncing x) = tt
no_posts call (renaming x y) = tt
no_posts call (removing x) = tt
no_posts call (cutting x n) = tt
no_posts call (reading w at max) = tt
no_posts call (sizing w) = tt

no_turns : (files : Files) (logs : Logs) (call : Deed) (answer : ActAnswer) → OfWahead call → WriterRule files logs call answer
no_turns files logs call answer starting = tt
no_turns files logs call answer (creating x) = tt
no_turns files logs call answer (appending x bytes) = tt
no_turns files logs call answer (syncing x) = tt
no_turns files logs call answer (renaming x y) = tt
no_turns files logs call answer (removing x) = tt
no_turns files logs call answer (cutting x n) = tt
no_turns files logs call answer (reading w at max) = tt
no_turns files logs call answer (sizing w) = tt

-- an own step of such a call obeys
pub writer_obeys : (stamped : List (List ℕ)) (name : List ℕ) (before : History) (step : Step) → step.act.who ≡ record { role = Writer; name = name }
    → OfWahead (deed step.act) → Honest before step → Obeys stamped before step
writer_obeys stamped name before step by of honest =
    let me : Who = record { role = Writer; name = name } in
    record {
      honest = honest;
      named = subst (λ (w : Who). IsTrue (is_named_so w.role w.name)) (sym by) refl;
      starts = subst (λ (w : Who). StartsAfterStop w before (deed step.act)) (sym by) (starts_well name before (deed step.act) of);
      own_files = subst (λ (w : Who). Framed w (files_after before) (deed step.act)) (sym by) (framed name (files_after before) (deed step.act) of);
      logs = subst (λ (w : Who). OnlyWritersGrowLogs w.role (deed step.act)) (sym by) (no_logs (deed step.act) of);
      requests = subst (λ (w : Who). OnlyAgentsPost w.role (deed step.act)) (sym by) (no_posts (deed step.act) of);
      rule = subst (λ (w : Who). RoleMay stamped w.role before step) (sym by)
          (no_turns (files_after before) (logs_after before) (deed step.act) step.act.answer of);
    }
