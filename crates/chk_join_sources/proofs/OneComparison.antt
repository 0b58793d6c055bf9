-- Two records are compared while all files stay.
use Rattle.std.proofs.Common.{◌≡◌, ◌⊎◌, inl, inr, ℕ, ◌+◌, ◌-◌, ◌<◌, ◌≤◌, suc, List, ◌++◌, take, drop, length, Option, Some, None, Ok, Err, sym, ◌∙◌, ap, ap₂, arith}
use Rattle.std.specs.Prelude.{flat_map}
use Rattle.std.proofs.lemmas.List.{drop-append-le, drop_more}
use Rattle.chk_site.specs.Files.{Files}
use Rattle.chk_site.specs.History.{History}
use Rattle.chk_site.specs.Site.{Adds}
use Rattle.chk_site.specs.Runs.{anyhow, Leads}
use Rattle.chk_site.proofs.Runs.{adds_as}
use Rattle.chk_site.proofs.Leads.{leads_as, leads_then}
use Rattle.chk_record_index.specs.Heads.{Head}
use Rattle.chk_record_index.specs.Order.{no_head}
use Rattle.chk_record_index.specs.declared.fault.JobFault.{JobFault}
use Rattle.chk_record_index.specs.declared.fault.JobFault.TheVariants.{Outside, Damaged, Spent, NoMemory}
use Rattle.chk_record_reader.specs.declared.reader.RecordReader.{RecordReader}
use Rattle.chk_record_reader.specs.ReadBack.{value_held}
use Rattle.chk_record_reader.specs.Segments.{HasFiles, SparesFiles}
use Rattle.chk_record_reader.specs.Archives.{AreWindows, value_in}
use Rattle.chk_join_sources.specs.declared.gathering.Side.{Side}
use Rattle.chk_join_sources.specs.declared.comparing.Cursor.{Cursor}
use Rattle.chk_join_sources.specs.declared.comparing.Progress.{Progress}
use Rattle.chk_join_sources.specs.declared.comparing.Readers.{Readers}
use Rattle.chk_join_sources.specs.Differences.{first_difference, further}
use Rattle.chk_join_sources.specs.Reading.{Fetched}
use Rattle.chk_join_sources.specs.Comparing.{values_between, value_there, rest_of, IsWithin, difference_left, IsMoved, IsStep, IsCompared, AreTrue, AreWithin, ComparedOne}
use Rattle.chk_join_sources.proofs.Differences.{further_both}

-- ---- the values from a head on

one_more : (n m : ℕ) → n < m → m - n ≡ suc (m - (n + 1))
one_more n m h = omega (arith, h)

pub next_value : (s : Side) (held : Files) (index end : ℕ) → index < end → end ≤ length s.heads.now
    → values_between s held index end ≡ value_there s held index ++ values_between s held (index + 1) end
next_value s held index end low high =
    ap₂ (λ (n : ℕ) hs. flat_map (value_in s.names.now held) (take n hs)) (one_more index end low)
    (drop_more s.heads.now index no_head (omega (arith, low, high)))

-- what isn't passed of the value there, and all behind it
pub rest_is : (s : Side) (held : Files) (value : List ℕ) (c : Cursor) → c.index < c.end → c.end ≤ length s.heads.now
    → value ≡ value_there s held c.index → c.passed ≤ length value
    → rest_of s held c ≡ drop c.passed value ++ values_between s held (c.index + 1) c.end
rest_is s held value c low high is within =
    ap (drop c.passed)
    (next_value s held c.index c.end low high ∙ ap (λ v. v ++ values_between s held (c.index + 1) c.end) (sym is))
    ∙ drop-append-le c.passed value (values_between s held (c.index + 1) c.end) within

-- what is left behind a move
pub moved_rest : (s : Side) (held : Files) (value : List ℕ) (count : ℕ) (old new : Cursor) → old.index < old.end
    → old.end ≤ length s.heads.now → value ≡ value_there s held old.index → old.passed ≤ length value
    → IsMoved value (values_between s held (old.index + 1) old.end) count old new
    → rest_of s held new ≡ drop count (rest_of s held old)
moved_rest s held value count old new low high is within m =
    go (rest_is s held value old low high is within) m.on
  where
    go : rest_of s held old ≡ drop old.passed value ++ values_between s held (old.index + 1) old.end
        → ((new.index ≡ old.index) × (new.passed ≤ length value)
        × (drop new.passed value ++ values_between s held (old.index + 1) old.end
        ≡ drop count (drop old.passed value ++ values_between s held (old.index + 1) old.end)))
        ⊎ ((new.index ≡ old.index + 1) × (new.passed ≡ 0)
        × (values_between s held (old.index + 1) old.end
        ≡ drop count (drop old.passed value ++ values_between s held (old.index + 1) old.end)))
        → rest_of s held new ≡ drop count (rest_of s held old)
    go whole (inl x) =
        ap₂ (λ (i e : ℕ). drop new.passed (values_between s held i e)) x.0 m.end
        ∙ (ap (drop new.passed)
        (next_value s held old.index old.end low high ∙ ap (λ v. v ++ values_between s held (old.index + 1) old.end) (sym is))
        ∙ (drop-append-le new.passed value (values_between s held (old.index + 1) old.end) x.1
        ∙ (x.2 ∙ ap (drop count) (sym whole))))
    go whole (inr x) =
        ap₂ (λ (i e : ℕ). drop new.passed (values_between s held i e)) x.0 m.end
        ∙ (ap (λ (n : ℕ). drop n (values_between s held (old.index + 1) old.end)) x.1
        ∙ (x.2 ∙ ap (drop count) (sym whole)))

pub moved_within : (s : Side) (held : Files) (value more : List ℕ) (count : ℕ) (old new : Cursor)
    → value ≡ value_there s held old.index → IsMoved value more count old new → IsWithin s held new
moved_within s held value more count old new is m = go m.on
  where
    go : ((new.index ≡ old.index) × (new.passed ≤ length value)
        × (drop new.passed value ++ more ≡ drop count (drop old.passed value ++ more)))
        ⊎ ((new.index ≡ old.index + 1) × (new.passed ≡ 0) × (more ≡ drop count (drop old.passed value ++ more)))
        → new.index < new.end → new.passed ≤ length (value_there s held new.index)
    go (inl x) low =
        let fits = x.1 in
        let size : length value ≡ length (value_there s held new.index) =
        ap length (is ∙ ap (value_there s held) (sym x.0)) in
        omega (arith, fits, size)
    go (inr x) low = let none = x.1 in omega (arith, none)

-- ---- one comparison

module _ (l r : Side) (held : Files) (old new : Progress) (v w : List ℕ) (left : old.left.index < old.left.end)
    (right : old.right.index < old.right.end) (lefts : old.left.end ≤ length l.heads.now)
    (rights : old.right.end ≤ length r.heads.now) (within : AreWithin l r held old)
    (first : v ≡ value_there l held old.left.index) (second : w ≡ value_there r held old.right.index) where
  low : old.left.passed ≤ length v
  low =
      let fits = within.left left in
      let size = ap length first in
      omega (arith, fits, size)

  high : old.right.passed ≤ length w
  high =
      let fits = within.right right in
      let size = ap length second in
      omega (arith, fits, size)

  abbrev more : List ℕ
  more = values_between l held (old.left.index + 1) old.left.end

  abbrev rest : List ℕ
  rest = values_between r held (old.right.index + 1) old.right.end

  both : first_difference (rest_of l held old.left) (rest_of r held old.right)
      ≡ first_difference (drop old.left.passed v ++ more) (drop old.right.passed w ++ rest)
  both = ap₂ first_difference (rest_is l held v old.left left lefts first low) (rest_is r held w old.right right rights second high)

  pub went_on : IsStep v more w rest old new → AreWithin l r held new × (difference_left l r held new ≡ difference_left l r held old)
  went_on s = (
    record {
      left = moved_within l held v more s.count old.left new.left first s.left;
      right = moved_within r held w rest s.count old.right new.right second s.right;
    },
    ap₂ further s.same
        (ap₂ first_difference (moved_rest l held v s.count old.left new.left left lefts first low s.left)
        (moved_rest r held w s.count old.right new.right right rights second high s.right))
        ∙ (sym (further_both old.same s.count
        (first_difference (drop s.count (rest_of l held old.left)) (drop s.count (rest_of r held old.right))))
        ∙ ap (further old.same)
        (ap (further s.count)
        (ap₂ (λ a b. first_difference (drop s.count a) (drop s.count b))
        (rest_is l held v old.left left lefts first low) (rest_is r held w old.right right rights second high))
        ∙ (sym s.on ∙ sym both))),
  )

  pub differed : (k : ℕ) → IsCompared v more w rest old new (Some k) → difference_left l r held old ≡ Some k
  differed k is = ap (further old.same) both ∙ is

  -- behind both fetches
  pub was_compared : (all : List (List ℕ)) (rs : Readers) (result : Option ℕ)
      → (old.left.passed ≤ length v → old.right.passed ≤ length w → IsCompared v more w rest old new result)
      → (history : History) → HasFiles all held history → AreTrue l r held rs
      → ComparedOne all l r held rs old new (Ok result) history
  was_compared all rs None is history files true_ones =
      let x = went_on (is low high) in
      (files, true_ones, x.0, x.1)
  was_compared all rs (Some k) is history files true_ones = (files, true_ones, differed k (is low high))

-- ---- the calls

module _ (all : List (List ℕ)) (held : Files) {old mid new : Option History} where
  pub both_fetched : (ln rn : List (List ℕ)) (h k : Head) (p q : RecordReader)
      → Adds old mid (Leads (anyhow (SparesFiles all)) (HasFiles all held) (Fetched all ln held h p (Ok tt)))
      → Adds mid new (Leads (anyhow (SparesFiles all)) (HasFiles all held) (Fetched all rn held k q (Ok tt)))
      → Adds old new (Leads (anyhow (SparesFiles all)) (HasFiles all held)
      (λ history. Fetched all rn held k q (Ok tt) history × (AreWindows ln held p × (value_held p ≡ value_in ln held h))))
  both_fetched ln rn h k p q one two =
      leads_then one
      (adds_as (Leads (anyhow (SparesFiles all)) (Fetched all ln held h p (Ok tt))
      (λ history. Fetched all rn held k q (Ok tt) history × (AreWindows ln held p × (value_held p ≡ value_in ln held h)))) two
      (λ added history x. record { leads = λ others had. (x.leads others had.0, (had.1, had.2)); own = x.own }))

  pub second_refused : (ln rn : List (List ℕ)) (h k : Head) (p q : RecordReader) (fault : JobFault)
      → Adds old mid (Leads (anyhow (SparesFiles all)) (HasFiles all held) (Fetched all ln held h p (Ok tt)))
      → Adds mid new (Leads (anyhow (SparesFiles all)) (HasFiles all held) (Fetched all rn held k q (Err fault)))
      → Adds old new (Leads (anyhow (SparesFiles all)) (HasFiles all held) (Fetched all rn held k q (Err fault)))
  second_refused ln rn h k p q fault one two = leads_then (leads_as (λ history x. x) (λ history x. x.0) one) two

pub not_compared : (all names : List (List ℕ)) (l r : Side) (held : Files) (h : Head) (p : RecordReader) (rs : Readers)
    (a b : Progress) (fault : JobFault) {old new : Option History}
    → Adds old new (Leads (anyhow (SparesFiles all)) (HasFiles all held) (Fetched all names held h p (Err fault)))
    → Adds old new (Leads (anyhow (SparesFiles all)) (HasFiles all held) (ComparedOne all l r held rs a b (Err fault)))
not_compared all names l r held h p rs a b fault told = leads_as (λ history x. x) (λ history x. said fault history x) told
  where
    said : (fault : JobFault) (history : History) → Fetched all names held h p (Err fault) history
        → ComparedOne all l r held rs a b (Err fault) history
    said (Outside call) history x = tt
    said (Damaged name at) history x = x
    said (Spent n) history x = tt
    said NoMemory history x = tt
