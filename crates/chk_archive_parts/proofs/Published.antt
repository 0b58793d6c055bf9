-- A folder's next book is published.
use Rattle.std.proofs.Common.{◌≡◌, inl, inr, ℕ, false, true, List, Option, None, Ok, Err, Result, ap, sym, ◌∙◌, refl, if◌then◌else◌}
use Rattle.std.specs.Prelude.{IsFalse}
use Rattle.chk_site.specs.declared.acts.OutsideFault.{OutsideFault}
use Rattle.chk_site.specs.Acts.{Deed, Starts, Reads}
use Rattle.chk_site.specs.History.{History, Every}
use Rattle.chk_site.specs.Site.{Adds}
use Rattle.chk_site.specs.Runs.{Leads, MadeInTurn}
use Rattle.chk_site.proofs.Leads.{leads_as}
use Rattle.chk_replace.specs.Replace.{replacement}
use Rattle.chk_replace.proofs.CallSteps.{script_each}
use Rattle.chk_world.specs.Names.{Folder, Name, BookFile, folder_text, spell}
use Rattle.chk_world.specs.Books.{Book, book_bytes, written_version, is_book}
use Rattle.chk_world.specs.Places.{As, AtTold}
use Rattle.chk_world.specs.Sight.{job, Sight, sight, own_book}
use Rattle.chk_world.specs.JobSteps.{IsOf, removes, creates, appends, syncs}
use Rattle.chk_world.proofs.BooksRead.{book_back}
use Rattle.chk_world.proofs.Publishing.{is_of_book, beside, BookAfter, publish_leads}
use Rattle.chk_world.proofs.ToldCalls.{talks}
use Rattle.chk_book.specs.Folders.{book_name}
use Rattle.chk_archive_parts.specs.Publishing.{IsPublished, MayFollow, Published, ReplacesBookOf, writes_book, names_book}
use Rattle.chk_archive_parts.proofs.OneFile.{Knows}
use Rattle.chk_archive_parts.proofs.OneSegment.{quiet_write}
use Rattle.chk_world.proofs.Lifts.{no_write_starts}
use Rattle.chk_archive_parts.proofs.StepKinds.{writes_no_reads}

-- the book's name is that of the folder's book
pub book_named : (folder : Folder) (text : List ℕ) → text ≡ folder_text folder → book_name text ≡ spell (BookFile folder)
unfolding spell
book_named folder text is = ap book_name is

module _ (stamped : List (List ℕ)) (folder : Folder) (v : Sight) (b : Book) (may : MayFollow stamped folder v b)
    (can : is_book (written_version b) b ≡ true) where
  beside_own : (u : Sight) → beside folder u ≡ beside folder v → (n : Name)
      → IsFalse (is_of_book folder n) → u.own n ≡ v.own n
  beside_own u same n apart =
      sym (ap (λ t. if t then None else u.own n) apart)
      ∙ (ap (λ (x : Sight). x.own n) same
      ∙ ap (λ t. if t then None else v.own n) apart)

  is_published : (c : Book) (u : Sight) → beside folder u ≡ beside folder v
      → own_book u folder ≡ c → IsPublished folder v c u
  is_published c u same book = record {
    listing = ap (λ (x : Sight). x.listing) same;
    sinks = λ x. ap (λ (y : Sight). y.sinks x) same;
    own = λ n apart. beside_own u same n apart;
    book = book;
  }

  pub published : (text : List ℕ) → text ≡ folder_text folder → {result : Result (Unit {0}) OutsideFault} {old new : Option History}
      → MadeInTurn (replacement job (book_name text) (book_bytes (written_version b) b)) result old new
      → Adds old new (Leads (As stamped job) (Knows stamped v) (Published stamped folder v b result))
  published text is {result = result} script =
      leads_as
      (λ h k. record {
        legal = k.legal;
        may_act = k.may_act;
        alive = λ runs. record {
          base = ap (beside folder) (k.alive runs);
          book = ap (λ (u : Sight). own_book u folder) (k.alive runs);
        };
      })
      (λ h k. ended result h k)
      (publish_leads stamped folder (own_book v folder) b (book_bytes (written_version b) b)
      (book_back (written_version b) b can) (λ u. u ≡ beside folder v)
      (λ h legal k. may h legal (is_published (own_book v folder) (sight h) k.base k.book))
      (book_name text) (book_named folder text is) script)
    where
      ended : (result : Result (Unit {0}) OutsideFault) (h : History)
          → AtTold stamped job (BookAfter folder (λ u. u ≡ beside folder v) b result) h
          → Published stamped folder v b result h
      ended (Ok value) h k = record {
        legal = k.legal;
        may_act = k.may_act;
        alive = λ runs. let x = k.alive runs in is_published b (sight h) x.base x.book;
      }
      ended (Err fault) h k = k.legal

-- ---- its calls

pub replaces_no_reads : (text : List ℕ) (call : Deed) → ReplacesBookOf text call → (name : List ℕ) (place max : ℕ)
    → call ≡ Reads name place max → ⊥
replaces_no_reads text call (writes_book c k) name place max is = writes_no_reads _ c k name place max is
replaces_no_reads text call names_book name place max is = absurd (cc)

pub replaces_no_start : (text : List ℕ) → ReplacesBookOf text Starts → ⊥
replaces_no_start text (writes_book c k) = no_write_starts _ k

pub quiet_replace : (text : List ℕ) (call : Deed) → ReplacesBookOf text call → talks call ≡ false
quiet_replace text call (writes_book c k) = quiet_write _ c k
quiet_replace text call names_book = refl

pub publishes : (text bytes : List ℕ) {result : Result (Unit {0}) OutsideFault} {old new : Option History}
    → MadeInTurn (replacement job (book_name text) bytes) result old new
    → Adds old new (Every (IsOf (ReplacesBookOf text)))
publishes text bytes script =
    script_each (IsOf (ReplacesBookOf text)) (λ before step theirs. inl theirs) (
      (λ before answer files logs running honest. inr (
        record { own = refl; running = running; honest = honest; by = refl },
        writes_book _ removes,
      )),
      (
        (λ before answer files logs running honest. inr (
          record { own = refl; running = running; honest = honest; by = refl },
          writes_book _ creates,
        )),
        (
          (λ before answer files logs running honest. inr (
            record { own = refl; running = running; honest = honest; by = refl },
            writes_book _ (appends bytes),
          )),
          (
            (λ before answer files logs running honest. inr (
              record { own = refl; running = running; honest = honest; by = refl },
              writes_book _ syncs,
            )),
            (
              (λ before answer files logs running honest. inr (
                record { own = refl; running = running; honest = honest; by = refl },
                names_book,
              )),
              tt,
            ),
          ),
        ),
      ),
    )
    script
