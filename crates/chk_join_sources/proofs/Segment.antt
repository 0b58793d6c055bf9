-- The segment, from its header to its end.
use Rattle.std.proofs.Common.{◌≡◌, ℕ, ◌-◌, ◌^◌, List, [], ◌++◌, Option, Ok, Err, Result, true, refl, sym, ◌∙◌, ap, subst, arith}
use Rattle.std.specs.Prelude.{codes, IfErr}
use Rattle.std.proofs.lemmas.Bool.{and_from}
use Rattle.chk_bytes.proofs.WordLemmas.{plain_word}
use Rattle.chk_site.specs.Files.{Files}
use Rattle.chk_site.specs.History.{History, Every, Others}
use Rattle.chk_site.specs.Site.{Adds}
use Rattle.chk_site.specs.Runs.{anyhow, Leads}
use Rattle.chk_site.proofs.Runs.{adds_as, adds_both}
use Rattle.chk_site.proofs.Leads.{leads_as, owned_anyhow}
use Rattle.chk_chunk.specs.Keys.{Chunk}
use Rattle.chk_world.specs.Books.{Book}
use Rattle.chk_world.specs.JobSteps.{IsOf, WritesTo, SparesFile}
use Rattle.chk_record_index.specs.Faults.{IsOfBegin, IsOfRead, IsOfWrite}
use Rattle.chk_record_index.specs.Pieces.{AsksInPieces}
use Rattle.chk_record_index.proofs.Gathering.{every_then}
use Rattle.chk_record_index.specs.declared.fault.JobFault.{JobFault}
use Rattle.chk_record_index.specs.declared.fault.JobFault.TheVariants.{Outside, Damaged, Spent, NoMemory}
use Rattle.chk_book.specs.declared.segmenter.Segmenter.{Segmenter}
use Rattle.chk_book.specs.Folders.{segment_name, most_in, is_folder}
use Rattle.chk_book.specs.Segmenting.{Writing, HoldsSegment, all_bytes, IsSegmentOf, begun, segment_of, with_segment}
use Rattle.chk_book.specs.Written.{IsAt, HasEnded}
use Rattle.chk_book.proofs.Added.{write_begins, fails_later}
use Rattle.chk_book.specs.Causes.{SpentBook}
use Rattle.chk_record_reader.specs.Segments.{HasFiles, AreSettled}
use Rattle.chk_record_reader.specs.Merging.{SparesBoth, AreApart, bare_book, merged_result}
use Rattle.chk_record_reader.proofs.AllRead.{adds_all}
use Rattle.chk_join_sources.specs.Copying.{joined_segment, IsForJoined, HasCopied, CopiedAll, WroteChosen, Worked, Copies}
use Rattle.chk_join_sources.proofs.CopySteps.{of_segment, segment_is, files_left, writes_copy}
use Rattle.chk_book.proofs.Works.{last_of, pieces_of, own_of, worked}
use Rattle.chk_record_reader.proofs.Writing.{writes_ask}

-- what isn't damage says nothing
unwritten : (all : List (List ℕ)) (held : Files) (next : ℕ) (chunks : List Chunk) (fault : JobFault) → IsOfBegin fault
    → (history : History) → WroteChosen all held next chunks (Err fault) history
unwritten all held next chunks (Outside call) of history = tt
unwritten all held next chunks (Damaged name at) of history = of
unwritten all held next chunks (Spent n) of history = tt
unwritten all held next chunks NoMemory of history = tt

module _ (all : List (List ℕ)) (held : Files) (next : ℕ) where
  abbrev segment : List ℕ
  segment = joined_segment next

  -- a refusal of the beginning or of the end
  pub not_written : {P : History → History → Type 0} {A : History → Type 0} (chunks : List Chunk) (fault : JobFault) → IsOfBegin fault
      → {old new : Option History} → Adds old new P
      → Adds old new (Leads (anyhow (SparesBoth all segment)) A (WroteChosen all held next chunks (Err fault)))
  not_written {A = A} chunks fault of told =
      adds_as (Leads (anyhow (SparesBoth all segment)) A (WroteChosen all held next chunks (Err fault))) told
      (λ added history p. record {
        leads = λ both had. unwritten all held next chunks fault of (added ++ history);
        own = owned_anyhow added history;
      })

  -- the header is written
  pub begun_so : (s : Segmenter) → AreSettled all held → AreApart all segment → IsAt s (begun (codes "joined") next)
      → {old new : Option History}
      → Adds old new (Leads (anyhow (SparesFile segment)) (λ h. Unit {0}) (HoldsSegment (begun (codes "joined") next)))
      → Adds old new (Every (IsOf (WritesTo segment)))
      → Adds old new (Leads (anyhow (SparesBoth all segment)) (HasFiles all held) (HasCopied all held [] s))
  begun_so s settled apart at raw own =
      adds_both (Leads (anyhow (SparesBoth all segment)) (HasFiles all held) (HasCopied all held [] s)) raw own
      (λ added history x made. record {
        leads = λ both files. record {
          files = files_left all held segment settled apart added history made both files;
          w = begun (codes "joined") next;
          at = at;
          folder = refl;
          chunks_are = refl;
          holds = x.leads (of_segment all segment segment refl added history both) tt;
        };
        own = owned_anyhow added history;
      })

  -- a record that wasn't copied
  pub not_all : (t : Segmenter) (more chunks : List Chunk) (fault : JobFault) {A : History → Type 0} {old new : Option History}
      → Adds old new (Leads (anyhow (SparesBoth all segment)) A (CopiedAll all held more t (Err fault)))
      → Adds old new (Leads (anyhow (SparesBoth all segment)) A (WroteChosen all held next chunks (Err fault)))
  not_all t more chunks fault told = leads_as (λ g x. x) (λ g x. said fault g x) told
    where
      said : (fault : JobFault) (g : History) → CopiedAll all held more t (Err fault) g → WroteChosen all held next chunks (Err fault) g
      said (Outside call) g x = tt
      said (Damaged name at) g x = x
      said (Spent n) g x = tt
      said NoMemory g x = tt

  -- the rest is written and synced
  module _ (s : Segmenter) (chunks : List Chunk) (old_book b : Book) (number : s.number ≡ next) (bare : old_book ≡ bare_book next)
      (settled : AreSettled all held) (apart : AreApart all segment) where
    ended : (result : Result (Unit {0}) JobFault) → IfErr result IsOfWrite → (added history : History)
        → Every (IsOf (WritesTo segment)) added history
        → ((x : (w : Writing) × IsAt s w) → Leads (anyhow (SparesFile (segment_name x.0.folder x.0.number))) (HoldsSegment x.0)
        (HasEnded x.0 old_book b result) added history)
        → Others (SparesBoth all segment) added history → HasCopied all held chunks s history
        → WroteChosen all held next chunks (merged_result b result) (added ++ history)
    ended (Ok value) only added history made ys both can =
        let w = can.w in
        let y = (ys (w, can.at)).leads
        (of_segment all segment (segment_name w.folder w.number) (segment_is s w can.at can.folder ∙ ap joined_segment number)
        added history both) can.holds in (
          files_left all held segment settled apart added history made both can.files,
          (
            w,
            record {
              folder_is = can.folder;
              number_is = sym can.at.number ∙ number;
              chunks_are = can.chunks_are;
              form = subst (λ (x : List ℕ). IsSegmentOf (most_in x) (all_bytes w) w.chunks) can.folder can.at.sound;
              finished = y.0;
              book_is = y.1 ∙ ap (λ (o : Book). with_segment o (segment_of w) w.chunks) bare;
            },
          ),
        )
    ended (Err fault) only added history made ys both can =
        unwritten all held next chunks fault (write_begins fault only) (added ++ history)

    pub ended_so : (result : Result (Unit {0}) JobFault) → IfErr result IsOfWrite → {old new : Option History}
        → ((w : Writing) → IsAt s w → Adds old new (Leads (anyhow (SparesFile (segment_name w.folder w.number))) (HoldsSegment w)
        (HasEnded w old_book b result)))
        → Adds old new (Every (IsOf (WritesTo segment)))
        → Adds old new (Leads (anyhow (SparesBoth all segment)) (HasCopied all held chunks s)
        (WroteChosen all held next chunks (merged_result b result)))
    ended_so result only raw own =
        adds_all (Leads (anyhow (SparesBoth all segment)) (HasCopied all held chunks s) (WroteChosen all held next chunks (merged_result b result)))
        own (λ (x : (w : Writing) × IsAt s w). raw x.0 x.1)
        (λ added history made ys. record {
          leads = λ both can. ended result only added history made ys both can;
          own = owned_anyhow added history;
        })

-- its own writing is of the segment
pub own_writes : (s : Segmenter) → IsForJoined s → {old new : Option History}
    → ((w : Writing) → IsAt s w → Adds old new (Every (IsOf (WritesTo (segment_name w.folder w.number)))))
    → Adds old new (Every (IsOf (WritesTo (joined_segment s.number))))
own_writes s f {old = old} {new = new} own =
    subst (λ (v : List ℕ). Adds old new (Every (IsOf (WritesTo v)))) (segment_is s f.w f.at f.folder) (own f.w f.at)

pub joined_folder : is_folder (codes "joined") ≡ true
joined_folder = and_from _ _ (plain_word (codes "joined") refl (omega arith) (omega arith)) refl

-- ---- own calls

pub begun_copied : (s : Segmenter) (n : ℕ) {old mid new : Option History} → Adds old mid (Every (IsOf (WritesTo (joined_segment n))))
    → Adds mid new (Worked {T = Unit {0}} (Copies n) (Ok tt)) → Adds old new (Worked {T = Unit {0}} (Copies n) (Ok tt))
begun_copied s n own told =
    worked (Copies n) (Ok tt) (every_then (IsOf (Copies n)) (writes_copy n own) (own_of (Copies n) (Ok tt) told))
    (every_then AsksInPieces (writes_ask (joined_segment n) own) (pieces_of (Copies n) (Ok tt) told))
    (fails_later {T = Unit {0}} (Ok tt) own (last_of (Copies n) (Ok tt) told))

pub begun_works : (s : Segmenter) (n : ℕ) (fault : JobFault) {old mid new : Option History}
    → Adds old mid (Every (IsOf (WritesTo (joined_segment n))))
    → Adds mid new (Worked {T = Unit {0}} (Copies n) (Err fault)) → Adds old new (Worked {T = Unit {0}} (Copies n) (Err fault))
begun_works s n fault own told =
    worked (Copies n) (Err fault) (every_then (IsOf (Copies n)) (writes_copy n own) (own_of (Copies n) (Err fault) told))
    (every_then AsksInPieces (writes_ask (joined_segment n) own) (pieces_of (Copies n) (Err fault) told))
    (fails_later {T = Unit {0}} (Err fault) own (last_of (Copies n) (Err fault) told))

-- a number that is left isn't spent by copying
pub spent_copied : (b : Book) (fault : JobFault) → IsOfRead fault → (b.next ≡ 2 ^ 63 - 1 → ⊥) → SpentBook {T = Unit {0}} b (Err fault)
spent_copied b (Outside call) of other = other
spent_copied b (Damaged name at) of other = other
spent_copied b (Spent number) of other = absurd of
spent_copied b NoMemory of other = tt
