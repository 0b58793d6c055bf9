-- A book is published: whatever the job knows beside the book stays, and the book is the old one or
-- the new one.
use Rattle.std.proofs.Common.{◌≡◌, ℕ, Bool, true, false, ◌&&◌, ◌||◌, List, ◌∷◌, Option, Some, None, Ok, Err, Result, ap, ◌∙◌, refl, if◌then◌else◌}
use Rattle.std.proofs.lemmas.Bool.{and_parts, or_parts}
use Rattle.chk_bytes.specs.Stems.{Stem}
use Rattle.chk_site.specs.declared.acts.OutsideFault.{OutsideFault}
use Rattle.chk_site.specs.Acts.{deed}
use Rattle.chk_site.specs.History.{History, files_after}
use Rattle.chk_site.specs.Site.{Adds}
use Rattle.chk_site.specs.Runs.{Leads, MadeInTurn}
use Rattle.chk_site.proofs.Leads.{leads_as}
use Rattle.chk_replace.specs.Replace.{replacement}
use Rattle.chk_world.specs.Names.{Folder, Name, BookFile, SegmentFile, DoneFile, Temporary, spell, file, is_known}
use Rattle.chk_world.specs.Books.{Book, read_book, book_of}
use Rattle.chk_world.specs.ArchiveRuns.{last_listing}
use Rattle.chk_world.specs.Jobs.{NewBook}
use Rattle.chk_world.specs.Rules.{Legal}
use Rattle.chk_world.specs.Places.{As, AtTold}
use Rattle.chk_world.proofs.NameTests.{same_name}
use Rattle.chk_world.proofs.PlacesStay.{SightStays}
use Rattle.chk_world.proofs.Replacing.{around, EndedAt}
use Rattle.chk_world.proofs.JobCalls.{StaysOverBook, Booked, book_replaced, other_stays, book_listing, job_target}
use Rattle.chk_world.specs.Sight.{job, is_job_file, shows_done, listed_sinks, Sight, sight}
use Rattle.chk_world.proofs.SightStays.{sight_stays, stem_shown}

-- the book or its next content
abbrev pub is_of_book : Folder → Name → Bool
is_of_book folder n = same_name n (BookFile folder) || same_name n (Temporary (BookFile folder))

-- what the job knows beside them
abbrev pub beside : Folder → Sight → Sight
beside folder v = record { listing = v.listing; own = λ n. if is_of_book folder n then None else v.own n; sinks = v.sinks }

abbrev pub apart_sight : Folder → History → Sight
apart_sight folder history = beside folder (sight history)

apart_stays : (stamped : List (List ℕ)) (folder : Folder) (a : Name)
    → SightStays stamped (around job (apart_sight folder) a (BookFile folder))
apart_stays stamped folder a history step legal f = ap (beside folder) (sight_stays stamped history step legal f)

stays_over : (stamped : List (List ℕ)) (folder : Folder)
    → StaysOverBook stamped folder (apart_sight folder)
stays_over stamped folder before step by on goes legal =
    λ i. record { listing = listed i; own = λ n. (own_now n (is_of_book folder n) refl (is_job_file n && is_known n) refl) i; sinks = λ x. (sinks x) i }
  where
    listed : last_listing (step ∷ before) ≡ last_listing before
    listed = book_listing folder _ (deed step.act) step.act.answer (step ∷ before) (last_listing before) on

    own_now : (n : Name) (m : Bool) → is_of_book folder n ≡ m → (b : Bool)
        → (is_job_file n && is_known n) ≡ b
        → (if m then None else (if b then file step.files n else None)) ≡ (if m then None else (if b then file (files_after before) n else None))
    own_now n true e b k = refl
    own_now n false e false k = refl
    own_now n false e true k =
        let p = or_parts (same_name n (BookFile folder)) (same_name n (Temporary (BookFile folder))) e in
        other_stays folder n (and_parts (is_job_file n) (is_known n) k).1 p.0 p.1 before step on goes legal.1.honest

    sink_now : (x : Stem) (b : Bool) → shows_done (last_listing before) x ≡ b
        → (if b then file step.files (DoneFile x) else None) ≡ (if b then file (files_after before) (DoneFile x) else None)
    sink_now x false e = refl
    sink_now x true e = other_stays folder (DoneFile x) (stem_shown (last_listing before) x e) refl refl before step on goes legal.1.honest

    sinks : (x : Stem)
        → listed_sinks (last_listing (step ∷ before)) step.files x ≡ listed_sinks (last_listing before)
        (files_after before) x
    sinks x = ap (λ l. listed_sinks l step.files x) listed ∙ sink_now x (shows_done (last_listing before) x) refl

-- beside the book P holds, and the book is this one
pub record BookIs (folder : Folder) (P : Sight → Type 0) (b : Book)
    (history : History) : Type 0 where
  pub base : P (apart_sight folder history)
  pub book : book_of (files_after history) folder ≡ b

abbrev pub BookAfter : Folder → (Sight → Type 0) → Book → Result (Unit {0}) OutsideFault → History
    → Type 0
BookAfter folder P new (Ok value) history = BookIs folder P new history
BookAfter folder P new (Err fault) history = P (apart_sight folder history)

pub publish_leads : (stamped : List (List ℕ)) (folder : Folder) (old new : Book) (bytes : List ℕ)
    → read_book bytes ≡ Some new → (P : Sight → Type 0)
    → ((history : History) → Legal stamped history → BookIs folder P old history → NewBook stamped folder history new)
    → (name : List ℕ) → name ≡ spell (BookFile folder)
    → {result : Result (Unit {0}) OutsideFault} {before after : Option History}
    → MadeInTurn (replacement job name bytes) result before after
    → Adds before after (Leads (As stamped job) (AtTold stamped job (BookIs folder P old)) (AtTold stamped job (BookAfter folder P new result)))
publish_leads stamped folder old new bytes is P may name e {result = result} script =
    leads_as
    (λ h t. record { legal = t.legal; may_act = t.may_act; alive = λ r. let k = t.alive r in record { base = record { base = k.base; book = k.book }; next = tt } })
    (λ h t. record { legal = t.legal; may_act = t.may_act; alive = λ r. ended result h (t.alive r) })
    (book_replaced stamped folder (apart_sight folder) (SegmentFile folder 1) (job_target stamped (apart_sight folder) (SegmentFile folder 1) folder (record { own = refl; known = refl }) refl (apart_stays stamped folder (SegmentFile folder 1)))
    refl (stays_over stamped folder) old new bytes is (λ v s. P v) P (λ v s p. p)
    (λ history legal book base. may history legal (record { base = base; book = book })) name e script)
  where
    ended : (result : Result (Unit {0}) OutsideFault) (h : History)
        → EndedAt job (apart_sight folder) (SegmentFile folder 1)
        (BookFile folder) P (λ v s t m. Booked (λ v s. P v) new v s m) result h
        → BookAfter folder P new result h
    ended (Ok value) h k = record { base = k.base; book = k.book }
    ended (Err fault) h k = k
