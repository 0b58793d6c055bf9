-- That a record of the archive has bytes that aren't split, as own reads of a demux run show it.
use Rattle.std.proofs.Common.{◌≡◌, inl, inr, ℕ, ◌<◌, ◌-◌, ◌^◌, Bool, true, false, true≢false, List, ◌++◌, length, codes, Option, Ok, Err, Result, refl, sym, subst, ◌∙◌, arith}
use Rattle.std.specs.Prelude.{Contains, IsTrue, IfErr, OnOk}
use Rattle.std.proofs.lemmas.List.Elements.{Contains-get_or}
use Rattle.chk_site.specs.History.{History}
use Rattle.chk_site.specs.Site.{Adds}
use Rattle.chk_site.proofs.Runs.{adds_then, adds_as}
use Rattle.chk_world.specs.Books.{Book, End, ends_rise}
use Rattle.chk_world.proofs.Each.{each_from, each_at}
use Rattle.chk_world.proofs.SpelledLemmas.{book_so}
use Rattle.chk_record_index.specs.Heads.{Head}
use Rattle.chk_record_index.specs.Order.{no_head, head_before, in_head_order}
use Rattle.chk_record_index.specs.Shown.{Within}
use Rattle.chk_record_index.specs.Faults.{IsOfRead, IsOfWrite}
use Rattle.chk_record_index.specs.declared.fault.JobFault.{JobFault}
use Rattle.chk_record_index.specs.declared.fault.JobFault.TheVariants.{Outside, Damaged, Spent, NoMemory}
use Rattle.chk_record_index.proofs.Showing.{within_late, within_early}
use Rattle.chk_book.specs.Books.{book_view}
use Rattle.chk_book.specs.Loaded.{ShowsBook}
use Rattle.chk_archive_plan.specs.Passes.{head_in}
use Rattle.chk_demux.specs.declared.beginning.Books.{Books}
use Rattle.chk_demux.specs.Splitting.{split_from, ends_past}
use Rattle.chk_demux.specs.Shown.{HasPast, HasNew, ShowsNew, ShowsNewestSound, PutsIf, ShowsPut, SpentBy, ShowsBegun, ShowsSpent}
use Rattle.chk_demux.proofs.NewRecords.{rise_of}
use Rattle.chk_record_reader.proofs.SortedStream.{each_sort}

-- ---- one of the heads, in whatever order

pub in_sorted : (heads : List Head) (h : Head) → Contains (in_head_order heads) h → Contains heads h
in_sorted heads h one =
    each_at (Contains heads) (in_head_order heads) h
    (each_sort (Contains heads) head_before heads (each_from (Contains heads) heads (λ x k. k))) one

new_found : (archive records : Book) (heads found : List Head)
    → ((h : Head) → Contains heads h → Contains (in_head_order found) h)
    → HasNew archive records heads → HasNew archive records found
new_found archive records heads found some (e, named, past) = (
  e,
  named,
  (
    past.0,
    in_sorted found past.0 (some past.0 past.1),
    past.2,
  ),
)

-- ---- what is put

pub then_put : {P : Type 0} (old mid new : ℕ) → PutsIf P old mid → PutsIf P mid new
    → PutsIf P old new
then_put old mid new (inr p) y = inr p
then_put old mid new (inl x) (inr p) = inr p
then_put old mid new (inl x) (inl y) = inl (y ∙ x)

pub past_put : {T P : Type 0} (r : Result T JobFault) (old new : ℕ) → P → OnOk r (PutsIf P old new)
past_put (Ok value) old new p = inr p
past_put (Err fault) old new p = tt

pub head_put : (heads : List Head) (e : End) (from index old new : ℕ) → index < length heads
    → PutsIf (IsTrue (ends_past e from (head_in heads index))) old new
    → PutsIf (HasPast heads e from) old new
head_put heads e from index old new low (inl same) = inl same
head_put heads e from index old new low (inr past) =
    inr (head_in heads index, Contains-get_or heads index no_head low, past)

pub stream_put : (archive records : Book) (heads : List Head) (e : End) (from old new : ℕ)
    → Contains archive.ends e → from ≡ split_from records e → PutsIf (HasPast heads e from) old new
    → PutsIf (HasNew archive records heads) old new
stream_put archive records heads e from old new named is (inl same) = inl same
stream_put archive records heads e from old new named is (inr past) =
    inr (e, named, subst (HasPast heads e) is past)

-- own reads show the heads among which it is
pub put_behind : (archive records : Book) (heads : List Head) (result : Result ℕ JobFault)
    (m n : ℕ) {P : History → History → Type 0} {old mid new : Option History}
    → (IsTrue (ends_rise records.ends) → OnOk result (PutsIf (HasNew archive records heads) m n))
    → Adds old mid (ShowsNewestSound archive (Ok heads)) → Adds mid new P
    → Adds old new (ShowsPut archive records m n result)
put_behind archive records heads result m n due so_far told =
    adds_then (ShowsPut archive records m n result) so_far told
    (λ a d history x y. said result due a d history x)
  where
    shows : (a d history : History) → ShowsNewestSound archive (Ok heads) a history
        → PutsIf (HasNew archive records heads) m n
        → PutsIf (ShowsNew archive records (d ++ a) history) m n
    shows a d history x (inl same) = inl same
    shows a d history x (inr has) = inr (record {
      first = x.0;
      heads = x.1;
      shown = within_early _ d a history x.3;
      new = new_found archive records heads x.1 x.2 has;
    })

    said : (result : Result ℕ JobFault)
        → (IsTrue (ends_rise records.ends)
        → OnOk result (PutsIf (HasNew archive records heads) m n))
        → (a d history : History) → ShowsNewestSound archive (Ok heads) a history
        → ShowsPut archive records m n result (d ++ a) history
    said (Ok left) due a d history x = λ rises. shows a d history x (due rises)
    said (Err fault) due a d history x = tt

-- ---- that the numbers are spent

pub reads_spend : (T : Type 0) (archive records : Book) (fault : JobFault)
    {P : History → History → Type 0} {old new : Option History} → IsOfRead fault → Adds old new P
    → Adds old new (SpentBy {T = T} archive records (Err fault))
reads_spend T archive records fault of told =
    adds_as (SpentBy {T = T} archive records (Err fault)) told
    (λ added history x. said fault of added history)
  where
    said : (fault : JobFault) → IsOfRead fault → (added history : History)
        → SpentBy {T = T} archive records (Err fault) added history
    said (Outside call) of added history = tt
    said (Damaged name at) of added history = tt
    said (Spent n) of added history = absurd of
    said NoMemory of added history = tt

pub writes_spend : {T : Type 0} (archive records : Book) (r : Result T JobFault)
    {P : History → History → Type 0} {old new : Option History} → IfErr r IsOfWrite
    → Adds old new P → Adds old new (SpentBy archive records r)
writes_spend archive records r of told =
    adds_as (SpentBy archive records r) told (λ added history x. said r of added history)
  where
    said : {T : Type 0} (r : Result T JobFault) → IfErr r IsOfWrite → (added history : History)
        → SpentBy archive records r added history
    said (Ok value) of added history = tt
    said (Err (Outside call)) of added history = tt
    said (Err (Damaged name at)) of added history = absurd of
    said (Err (Spent n)) of added history = absurd of
    said (Err NoMemory) of added history = tt

-- records were put, of which none was before
pub puts_spend : (T : Type 0) (archive records : Book) (left m n : ℕ) {old new : Option History}
    → m ≡ 0 → 0 < n → records.next ≡ 2 ^ 63 - 1
    → Adds old new (ShowsPut archive records m n (Ok left))
    → Adds old new (SpentBy {T = T} archive records (Err (Spent records.next)))
puts_spend T archive records left m n none some last told =
    adds_as (SpentBy {T = T} archive records (Err (Spent records.next))) told
    (λ added history x. (last, last, λ rises. said (x rises)))
  where
    said : {P : Type 0} → PutsIf P m n → P
    said (inl same) = absurd (let z : ⊥ = omega (arith, same, none, some) in z)
    said (inr p) = p

late_new : (archive records : Book) (d a history : History)
    → ShowsNew archive records d (a ++ history) → ShowsNew archive records (d ++ a) history
late_new archive records d a history s = record {
  first = s.first;
  heads = s.heads;
  shown = within_late _ d a history s.shown;
  new = s.new;
}

-- the ends of a book that own reads show rise
pub shown_rise : (folder : List ℕ) (b : Book) (added history : History)
    → Within (ShowsBook folder (Ok b)) added history
    → ends_rise b.ends ≡ true
shown_rise folder b added history w = elim w.holds [
  | inl missed ↦ subst (λ (x : Book). ends_rise x.ends ≡ true) (sym missed.1) refl
  | inr shown ↦
      let so = book_so shown.some b (shown.each shown.some shown.small shown.agree).0 in
      rise_of so.0 b so.1
]

-- where both books are loaded the ends of the archive's rise
pub where_rises : (b : Books) (Q : History → History → Type 0) {P : History → History → Type 0}
    {old mid new : Option History} → Adds old mid (ShowsBegun (Ok b)) → Adds mid new P
    → (IsTrue (ends_rise (book_view b.archive).ends) → Adds old new Q) → Adds old new Q
where_rises b Q {old = old} {new = new} so_far made on = go (ends_rise (book_view b.archive).ends) refl
  where
    go : (t : Bool) → ends_rise (book_view b.archive).ends ≡ t → Adds old new Q
    go true is = on is
    go false is =
        adds_then Q so_far made
        (λ a d history x y.
        absurd (true≢false
        (sym (shown_rise (codes "archive") (book_view b.archive) a history x.0) ∙ is)))

-- the book that was loaded has the last number
pub spent_behind : {T : Type 0} (b : Books) (result : Result T JobFault)
    {old mid new : Option History} → Adds old mid (ShowsBegun (Ok b))
    → Adds mid new (SpentBy (book_view b.archive) (book_view b.demux) result)
    → Adds old new (ShowsSpent result)
spent_behind b result so_far told = adds_then (ShowsSpent result) so_far told
    (λ a d history x y. said result a d history x y)
  where
    said : {T : Type 0} (result : Result T JobFault) → (a d history : History)
        → ShowsBegun (Ok b) a history
        → SpentBy (book_view b.archive) (book_view b.demux) result d (a ++ history)
        → ShowsSpent result (d ++ a) history
    said (Ok value) a d history x y = tt
    said (Err (Outside call)) a d history x y = tt
    said (Err (Damaged name at)) a d history x y = tt
    said (Err (Spent n)) a d history x y = (
      y.0,
      record {
        records = book_view b.demux;
        has_records = within_early _ d a history x.1;
        last = y.1;
        archive = book_view b.archive;
        has_archive = within_early _ d a history x.0;
        new = late_new (book_view b.archive) (book_view b.demux) d a history
            (y.2 (shown_rise (codes "demux") (book_view b.demux) a history x.1));
      },
    )
    said (Err NoMemory) a d history x y = tt
