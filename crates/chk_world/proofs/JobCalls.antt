-- The replacement of a book.
use Rattle.std.proofs.Common.{◌≡◌, ℕ, Bool, false, List, [], ◌∷◌, Option, Some, None, option_map, if◌then◌else◌, ap, sym, subst, ◌∙◌, refl}
use Rattle.std.specs.Prelude.{Result, IsTrue, unwrap_or}
use Rattle.chk_site.specs.declared.acts.Who.{Who}
use Rattle.chk_site.specs.declared.acts.OutsideFault.{OutsideFault}
use Rattle.chk_site.specs.declared.acts.ActAnswer.{ActAnswer}
use Rattle.chk_site.specs.Files.{File, Files, Grown, made, grown, secured}
use Rattle.chk_site.specs.Acts.{Deed, Appends, Renames, deed, change_of, is_done}
use Rattle.chk_site.specs.History.{Step, History, files_after}
use Rattle.chk_site.specs.Honest.{Honest}
use Rattle.chk_site.specs.Site.{Adds}
use Rattle.chk_site.specs.Runs.{Leads, MadeInTurn}
use Rattle.chk_replace.specs.Replace.{tmp, replacement}
use Rattle.chk_world.specs.Names.{Folder, Name, BookFile, Temporary, read, spell, file, is_known}
use Rattle.chk_world.specs.Books.{Book, read_book, book_in, empty_book}
use Rattle.chk_world.specs.Committed.{OnFile}
use Rattle.chk_world.specs.ArchiveRuns.{Listing, listing_by}
use Rattle.chk_world.specs.Jobs.{NewBook, IsBookFile, JobRule}
use Rattle.chk_world.specs.Rules.{RoleMay, Legal}
use Rattle.chk_world.specs.Places.{As, AtTold, AtPlace, IsOwn}
use Rattle.chk_world.specs.Sight.{job}
use Rattle.chk_world.proofs.NameLemmas.{read-spell}
use Rattle.chk_world.proofs.NameTests.{same_name, named, applied, moved_named, bridge}
use Rattle.chk_world.proofs.Outcomes.{CameTo, whole, nothing, junk, Leaves, went_on, was_stopped, leaves}
use Rattle.chk_world.proofs.PlacesStay.{SightStays}
use Rattle.chk_world.proofs.ToldCalls.{GoesOn}
use Rattle.chk_world.proofs.CollectorCalls.{went_goes, goes_failed, goes_is_done}
use Rattle.chk_world.proofs.Replacing.{Target, around, OnNext, on_remove, on_create, on_append, on_sync, settled, Next, anything, Replaces, EndedAt, next_word, replaced}

-- the job's rule is the one that its step owes
pub job_rule : (stamped : List (List ℕ)) (before : History) (step : Step) (call : Deed) → step.act.who ≡ job → deed step.act ≡ call
    → JobRule stamped before call → RoleMay stamped step.act.who.role before step
job_rule stamped before step call by is may =
    subst (λ r. RoleMay stamped r before step) (sym (ap (λ (k : Who). k.role) by)) (subst (JobRule stamped before) (sym is) may)

-- the calls by which the folder's book is replaced
pub data OnBook (folder : Folder) : Deed → Type 0 where
  on_next : (w : List ℕ) (call : Deed) → read w ≡ Temporary (BookFile folder) → OnNext w call → OnBook folder call
  on_rename : (w name : List ℕ) → read w ≡ Temporary (BookFile folder) → read name ≡ BookFile folder → OnBook folder (Renames w name)

-- what the job sees stays over these, where they are no stops
abbrev pub StaysOverBook : {V : Type 0} → List (List ℕ) → Folder → (History → V) → Type 0
StaysOverBook stamped folder sees =
    (before : History) (step : Step) → step.act.who ≡ job → OnBook folder (deed step.act) → GoesOn step.act.answer
    → Legal stamped (step ∷ before) → sees (step ∷ before) ≡ sees before

-- the folder's book is this one, and B holds of what the job sees and of the other file
pub record Booked {V : Type 0} (B : V → Option File → Type 0) (b : Book) (v : V) (s m : Option File) : Type 0 where
  pub base : B v s
  pub book : book_in m ≡ b

-- wherever the old book is there and B holds, the new one may follow
abbrev pub MayBook : {V : Type 0} → List (List ℕ) → Folder → (History → V) → Name → (V → Option File → Type 0) → Book → Book → Type 0
MayBook stamped folder sees a B old new =
    (history : History) → Legal stamped history → book_in (file (files_after history) (BookFile folder)) ≡ old
    → B (sees history) (file (files_after history) a) → NewBook stamped folder history new

module _ {V : Type 0} (stamped : List (List ℕ)) (folder : Folder) (sees : History → V) (a : Name) (apart : same_name a (BookFile folder) ≡ false)
    (stays : StaysOverBook stamped folder sees) (old new : Book) (w name bytes : List ℕ) (is_read : read_book bytes ≡ Some new)
    (B : V → Option File → Type 0) (R : V → Type 0) (less : (v : V) (s : Option File) → B v s → R v)
    (may : MayBook stamped folder sees a B old new)
    (reads : read w ≡ Temporary (BookFile folder)) (reads_name : read name ≡ BookFile folder) where
  abbrev N : Name
  N = BookFile folder

  next : (before : History) (step : Step) → step.act.who ≡ job → OnNext w (deed step.act) → GoesOn step.act.answer
      → Legal stamped (step ∷ before) → sees (step ∷ before) ≡ sees before
  next before step by on goes legal = stays before step by (on_next w (deed step.act) reads on) goes legal

  renamed_too : (before : History) (step : Step) → step.act.who ≡ job → deed step.act ≡ Renames w name → GoesOn step.act.answer
      → Legal stamped (step ∷ before) → sees (step ∷ before) ≡ sees before
  renamed_too before step by is goes legal =
      stays before step by (subst (OnBook folder) (sym is) (on_rename w name reads reads_name)) goes legal

  book_may : (before : History) (step : Step) → step.act.who ≡ job → deed step.act ≡ Renames w name → Legal stamped before
      → Booked B old (sees before) (file (files_after before) a) (file (files_after before) N)
      → file (files_after before) (Temporary N) ≡ settled bytes → RoleMay stamped step.act.who.role before step
  book_may before step by is legal h next =
      job_rule stamped before step (Renames w name) by is
      (rw (reads, reads_name)
      (refl, subst (λ o. OnFile o (IsBookFile stamped folder before)) (sym next) (new, is_read, may before legal h.book h.base)))

  -- what is to be known of the replacement of the book
  book_replaces : Replaces stamped job sees a N w name bytes (Booked B old) R (λ v s t m. Booked B new v s m)
  book_replaces = record {
    keeps = λ before step s m by on went legal h.
        subst (λ v. Booked B old v s m) (sym (next before step by on (went_goes (deed step.act) step.act.answer went) legal)) h;
    less = λ v s m h. less v s h.base;
    fails = λ before step s m by on failed legal h.
        subst R (sym (next before step by on (goes_failed step.act.answer failed) legal)) (less (sees before) s h.base);
    rename_fails = λ before step s m by is failed legal h.
        subst R (sym (renamed_too before step by is (goes_failed step.act.answer failed) legal)) (less (sees before) s h.base);
    at_last = λ v s t m g. less v s g.base;
    may = λ before step by is honest legal h next. book_may before step by is legal h next;
    renamed = λ before step by is done legal h was same gone there.
        record {
          base = subst (λ v. B v (file step.files a)) (sym (renamed_too before step by is (goes_is_done step.act.answer done) legal))
              (subst (B (sees before)) (sym (same apart)) h.base);
          book = ap book_in there ∙ ap (λ o. unwrap_or o empty_book) is_read;
        };
  }

-- The old book of a folder is replaced by the new one. B is what is known of what the job sees and of another file of its: it shows that the
-- new book may follow the old one.
pub book_replaced : {V : Type 0} (stamped : List (List ℕ)) (folder : Folder) (sees : History → V) (a : Name)
    → Target stamped job sees a (BookFile folder) → same_name a (BookFile folder) ≡ false → StaysOverBook stamped folder sees
    → (old new : Book) (bytes : List ℕ) → read_book bytes ≡ Some new → (B : V → Option File → Type 0) (R : V → Type 0)
    → ((v : V) (s : Option File) → B v s → R v) → MayBook stamped folder sees a B old new
    → (name : List ℕ) → name ≡ spell (BookFile folder) → {result : Result (Unit {0}) OutsideFault} {before after : Option History}
    → MadeInTurn (replacement job name bytes) result before after
    → Adds before after (Leads (As stamped job)
    (AtPlace stamped (around job sees a (BookFile folder)) (Next (Booked B old) anything))
    (AtTold stamped job (EndedAt job sees a (BookFile folder) R (λ v s t m. Booked B new v s m) result)))
book_replaced stamped folder sees a target apart stays old new bytes is_read B R less may name e script =
    let n = BookFile folder in
    let next = next_word name n e in
    replaced stamped job sees a n target name bytes e (Booked B old) R (λ v s t m. Booked B new v s m)
    (book_replaces stamped folder sees a apart stays old new (tmp name) name bytes is_read B R less may
    (ap read next ∙ read-spell (Temporary n) refl) (ap read e ∙ read-spell n refl)) script

-- ---- what the job sees: its last listing, and a second file of its

no_listing : (mine : Bool) (w : List ℕ) (call : Deed) (answer : ActAnswer) (upto : History) (earlier : Option Listing) → OnNext w call
    → listing_by mine call answer upto earlier ≡ earlier
no_listing mine w call answer upto earlier on_remove = refl
no_listing mine w call answer upto earlier on_create = refl
no_listing mine w call answer upto earlier (on_append bytes) = refl
no_listing mine w call answer upto earlier on_sync = refl

pub book_listing : (folder : Folder) (mine : Bool) (call : Deed) (answer : ActAnswer) (upto : History) (earlier : Option Listing)
    → OnBook folder call → listing_by mine call answer upto earlier ≡ earlier
book_listing folder mine call answer upto earlier (on_next w c reads on) = no_listing mine w c answer upto earlier on
book_listing folder mine call answer upto earlier (on_rename w name reads reads_name) = refl

abbrev appended : Deed → List ℕ
appended (Appends w piece) = w
appended call = []

-- a replacement of the book leaves each other file of the job's
module _ (folder : Folder) (c : Name) (known : IsTrue (is_known c)) (apart : same_name c (BookFile folder) ≡ false)
    (apart_next : same_name c (Temporary (BookFile folder)) ≡ false) (before : Files) where
  abbrev T : Name
  T = Temporary (BookFile folder)

  next_apart : (w : List ℕ) → read w ≡ T → (g : Option File → Option File)
      → (if same_name c (read w) then g (file before c) else file before c) ≡ file before c
  next_apart w reads g = rw (reads, apart_next) refl

  moved_apart : (o : Option File) → moved_named o T (BookFile folder) (file before) c ≡ file before c
  moved_apart None = refl
  moved_apart (Some f) = rw (apart, apart_next) refl

  whole_apart : (call : Deed) → OnBook folder call → applied (named (change_of call)) (file before) c ≡ file before c
  whole_apart call (on_next w d reads on) = go d on
    where
      go : (d : Deed) → OnNext w d → applied (named (change_of d)) (file before) c ≡ file before c
      go d on_remove = next_apart w reads (λ o. None)
      go d on_create = next_apart w reads made
      go d (on_append bytes) = next_apart w reads (option_map (grown bytes))
      go d on_sync = next_apart w reads (option_map secured)
  whole_apart call (on_rename w name reads reads_name) =
      ap (λ o. moved_named (file before o) o (read name) (file before) c) reads
      ∙ (ap (λ o. moved_named (file before T) T o (file before) c) reads_name ∙ moved_apart (file before T))

  -- what is appended to is the next content
  appends_next : (call : Deed) → OnBook folder call → (v piece : List ℕ) → call ≡ Appends v piece → read v ≡ T
  appends_next call (on_next w d reads on) v piece is = ap read (sym (go d on is)) ∙ reads
    where
      go : (d : Deed) → OnNext w d → d ≡ Appends v piece → w ≡ v
      go d on_remove is = absurd (cc)
      go d on_create is = absurd (cc)
      go d (on_append bytes) is = ap appended is
      go d on_sync is = absurd (cc)
  appends_next call (on_rename w name reads reads_name) v piece is = absurd (cc)

  pub came_apart : (call : Deed) (d : Bool) (after : Files) → OnBook folder call → CameTo call d before after → file after c ≡ file before c
  came_apart call d after on (whole e) = e (spell c) ∙ (bridge (change_of call) before c known ∙ whole_apart call on)
  came_apart call d after on (nothing not_done e) = e (spell c)
  came_apart call d after on (junk v piece bytes is not_done e) =
      e (spell c)
      ∙ (bridge (Grown v bytes) before c known ∙ next_apart v (appends_next call on v piece is) (option_map (grown bytes)))

pub other_stays : (folder : Folder) (c : Name) → IsTrue (is_known c) → same_name c (BookFile folder) ≡ false
    → same_name c (Temporary (BookFile folder)) ≡ false → (before : History) (step : Step) → OnBook folder (deed step.act)
    → GoesOn step.act.answer → Honest before step → file step.files c ≡ file (files_after before) c
other_stays folder c known apart apart_next before step on goes honest =
    let e = honest.modelled.effect in
    go (leaves (deed step.act) step.act.answer (files_after before) step.files e.did e.may e.files_left)
  where
    go : Leaves (deed step.act) step.act.answer (files_after before) step.files → file step.files c ≡ file (files_after before) c
    go (went_on no_stop came) =
        came_apart folder c known apart apart_next (files_after before) (deed step.act) (is_done step.act.answer) step.files on came
    go (was_stopped left is middle came tails) = absurd (subst GoesOn is goes)

-- the place of the job with a book and another file of its
pub job_target : {V : Type 0} (stamped : List (List ℕ)) (sees : History → V) (a : Name) (folder : Folder) → IsOwn job a
    → same_name a (Temporary (BookFile folder)) ≡ false → SightStays stamped (around job sees a (BookFile folder))
    → Target stamped job sees a (BookFile folder)
job_target stamped sees a folder own apart_next sight = record {
  place = record { named = refl; first = own; second = record { own = refl; known = refl }; third = record { own = refl; known = refl } };
  sight = sight;
  small = refl;
  apart_next = apart_next;
}
