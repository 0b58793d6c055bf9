-- The segments of what is taken and of what is set aside are written in turn.
use Rattle.std.proofs.Common.{◌≡◌, inl, inr, ℕ, ◌-◌, ◌<◌, ◌≤◌, ◌^◌, Bool, true, false, not, List, [], ◌∷◌, length, Option, Some, None, Ok, Err, Result, ap, sym, ◌∙◌, refl, arith, true≢false}
use Rattle.std.specs.Prelude.{codes, ◌==◌}
use Rattle.std.proofs.lemmas.Bool.{cases_Bool, and_parts}
use Rattle.chk_site.specs.Acts.{Deed}
use Rattle.chk_site.specs.History.{History}
use Rattle.chk_chunk.specs.Keys.{Chunk}
use Rattle.chk_world.specs.Names.{ArchiveFolder, Name, BookFile, SegmentFile}
use Rattle.chk_world.specs.Books.{Segment, Book, book_in, is_nothing}
use Rattle.chk_world.specs.Sight.{Sight, sight, own_book}
use Rattle.chk_world.specs.JobSteps.{ReadsOrWrites}
use Rattle.chk_world.proofs.NameTests.{same_name, name_same}
use Rattle.chk_record_index.specs.Heads.{Head}
use Rattle.chk_record_index.specs.declared.fault.JobFault.{JobFault}
use Rattle.chk_record_index.specs.declared.fault.JobFault.TheVariants.{Outside, Damaged, Spent, NoMemory}
use Rattle.chk_book.specs.Causes.{SpentBook}
use Rattle.chk_book.specs.Folders.{segment_name}
use Rattle.chk_book.specs.Segmenting.{with_segment, with_aside}
use Rattle.chk_archive_parts.specs.declared.cuts.Cut.{Cut}
use Rattle.chk_archive_parts.specs.Cuts.{cut_chunks}
use Rattle.chk_archive_parts.specs.Kept.{are_old_aside}
use Rattle.chk_archive_parts.specs.Writes.{SameBut, HasWritten, Written}
use Rattle.chk_archive.specs.Archived.{MergesBy, merge_reads, merge_writes}
use Rattle.chk_archive.specs.Written.{one_for}
use Rattle.chk_archive.specs.Taking.{SameBelow, IsWhole, none_kept, old_kept, new_kept, HasParts, no_parts, with_parts, PartsTaken, HasAside, AsideKept, stays_aside}

-- ---- what stays

pub below_self : (next : ℕ) (v : Sight) → SameBelow next v v
below_self next v = record { listing = refl; own = λ n apart. refl; sinks = λ x. refl }

pub below_but : (next : ℕ) (v u : Sight) → SameBut next v u → SameBelow next v u
below_but next v u s = record {
  listing = s.listing;
  own = λ n apart. elim (cases_Bool (same_name n (SegmentFile ArchiveFolder next))) [
    | inr other ↦ s.own n other
    | inl same ↦ absurd (apart next (omega arith) (name_same n (SegmentFile ArchiveFolder next) same))
  ];
  sinks = s.sinks;
}

pub below_both : (m n : ℕ) → m ≤ n → (v u w : Sight) → SameBelow m v u → SameBelow n u w → SameBelow m v w
below_both m n low v u w s t = record {
  listing = t.listing ∙ s.listing;
  own = λ x apart. t.own x (λ k high e. apart k (omega (arith, low, high)) e) ∙ s.own x apart;
  sinks = λ x. t.sinks x ∙ s.sinks x;
}

book_apart : (k : ℕ) → BookFile ArchiveFolder ≡ SegmentFile ArchiveFolder k → ⊥
book_apart k e = true≢false (ap is_book_file e)
  where
    is_book_file : Name → Bool
    is_book_file (BookFile folder) = true
    is_book_file n = false

pub below_book : (next : ℕ) (v u : Sight) → SameBelow next v u → own_book u ArchiveFolder ≡ own_book v ArchiveFolder
below_book next v u s = ap book_in (s.own (BookFile ArchiveFolder) (λ k high e. book_apart k e))

pub but_book : (next : ℕ) (v u : Sight) → SameBut next v u → own_book u ArchiveFolder ≡ own_book v ArchiveFolder
but_book next v u s = ap book_in (s.own (BookFile ArchiveFolder) refl)

pub below_segment : (next : ℕ) (v u : Sight) → SameBelow next v u → (n : ℕ) → n < next
    → u.own (SegmentFile ArchiveFolder n) ≡ v.own (SegmentFile ArchiveFolder n)
below_segment next v u s n small =
    s.own (SegmentFile ArchiveFolder n) (λ k high e. let is : n ≡ k = ap number_of e in omega (arith, high, small, is))
  where
    number_of : Name → ℕ
    number_of (SegmentFile folder k) = k
    number_of n = 0

-- ---- the kinds of calls

pub of_merge : (k : ℕ) (call : Deed) → ReadsOrWrites (segment_name (codes "archive") k) call → MergesBy call
of_merge k call (inl reads) = merge_reads call reads
of_merge k call (inr writes) = merge_writes k call writes

-- ---- what is taken

pub one_some : (cs : List Chunk) → (cs ≡ [] → ⊥) → one_for cs ≡ 1
one_some [] some = absurd (some refl)
one_some (c ∷ cs) some = refl

pub cuts_some : (cs : List Chunk) (cuts : List Cut) → false ≡ (length cuts == 0) → cut_chunks cs cuts ≡ [] → ⊥
cuts_some cs [] e none = true≢false (sym e)
cuts_some cs (k ∷ ks) e none = let z : ⊥ = grind (arith, none) in z

pub none_taken : (v : Sight) (b : Book) (parts : List Chunk) → parts ≡ [] → HasParts v b b parts v
none_taken v b parts none = no_parts none refl (below_self b.next v)

module _ (stamped : List (List ℕ)) (v : Sight) (b after : Book) (book : own_book v ArchiveFolder ≡ b) (parts : List Chunk) where
  has_parts : (u : Sight) → HasWritten (λ c g. with_segment c g parts) v b after parts u
      → (b.next ≡ 2 ^ 63 - 1 → ⊥) → (parts ≡ [] → ⊥) → HasParts v b after parts u
  has_parts u w spent some = with_parts w.segment w.number w.holds w.book spent some (below_but b.next v u w.same)

  pub parts_taken : (r : Result (Unit {0}) JobFault) → SpentBook b r → (parts ≡ [] → ⊥) → (h : History)
      → Written stamped (λ c g. with_segment c g parts) v b after parts r h → PartsTaken stamped v b after parts r h
  parts_taken (Ok value) spent some h k = record {
    legal = k.legal;
    may_act = k.may_act;
    alive = λ runs. has_parts (sight h) (k.alive runs) spent some;
  }
  parts_taken (Err (Outside call)) spent some h k = k
  parts_taken (Err (Damaged name at)) spent some h k = k
  parts_taken (Err (Spent n)) spent some h k = record {
    legal = k.legal;
    may_act = k.may_act;
    alive = λ runs.
        let last = spent.1 in
        let was = but_book b.next v (sight h) (k.alive runs) in
        let same : own_book (sight h) ArchiveFolder ≡ b = was ∙ book in
        let next = ap (λ (c : Book). c.next) same in
        let one = one_some parts some in
        (spent.0, omega (arith, last, next, one), was, (k.alive runs).listing);
  }
  parts_taken (Err NoMemory) spent some h k = k

-- ---- what is set aside

module _ (v : Sight) (b : Book) (heads : List Head) (old : ℕ) (cs : List Chunk) where
  pub aside_stays : (kept : List Cut) → stays_aside b heads old kept ≡ true
      → IsWhole v b heads old kept (cut_chunks cs kept) → HasAside v b b (cut_chunks cs kept) true false v
  aside_stays [] is whole = record {
    same = below_self b.next v;
    segments = refl;
    ends = refl;
    aside = none_kept refl (nothing b.aside is);
    numbers = omega arith;
    unchanged = λ e. refl;
  }
    where
      nothing : (o : Option Segment) → is_nothing o ≡ true → o ≡ None
      nothing None e = refl
      nothing (Some g) e = absurd (true≢false (sym e))
  aside_stays (k ∷ ks) is whole =
      let p = and_parts (not (is_nothing b.aside)) (are_old_aside heads old (k ∷ ks)) is in
      let g = something b.aside p.0 in
      record {
        same = below_self b.next v;
        segments = refl;
        ends = refl;
        aside = old_kept (whole g.0 g.1 p.1) refl;
        numbers = omega arith;
        unchanged = λ e. refl;
      }
    where
      something : (o : Option Segment) → not (is_nothing o) ≡ true → (g : Segment) × (o ≡ Some g)
      something None e = absurd (true≢false (sym e))
      something (Some g) e = (g, refl)

-- nothing is set aside
pub aside_goes : (v : Sight) (b : Book) (kept : List Chunk) → kept ≡ []
    → HasAside v b (record { next = b.next; segments = b.segments; ends = b.ends; aside = None }) kept false true v
aside_goes v b kept none = record {
  same = below_self b.next v;
  segments = refl;
  ends = refl;
  aside = none_kept none refl;
  numbers = let z = ap one_for none in omega (arith, z);
  unchanged = λ e. absurd (true≢false e);
}

module _ (stamped : List (List ℕ)) (v : Sight) (b after : Book) (kept : List Chunk) (some : kept ≡ [] → ⊥) where
  pub aside_written : (value : Unit {0}) (h : History)
      → Written stamped (λ c g. with_aside c (Some g)) v b after kept (Ok value) h
      → AsideKept stamped v b after kept false (Ok true) h
  aside_written value h k = record {
    legal = k.legal;
    may_act = k.may_act;
    alive = λ runs.
        let w = k.alive runs in
        record {
          same = below_but b.next v (sight h) w.same;
          segments = ap (λ (c : Book). c.segments) w.book;
          ends = ap (λ (c : Book). c.ends) w.book;
          aside = new_kept w.segment (let e = w.number in omega (arith, e)) w.holds (ap (λ (c : Book). c.aside) w.book);
          numbers =
              let next = ap (λ (c : Book). c.next) w.book in
              let number = w.number in
              let one = one_some kept some in
              omega (arith, next, number, one);
          unchanged = λ e. absurd (true≢false e);
        };
  }

  pub aside_fails : (fault : JobFault) → SpentBook {T = Unit {0}} b (Err fault) → (h : History)
      → Written stamped (λ c g. with_aside c (Some g)) v b after kept (Err fault) h
      → AsideKept stamped v b after kept false (Err fault) h
  aside_fails (Outside call) spent h k = k
  aside_fails (Damaged name at) spent h k = k
  aside_fails (Spent n) spent h k = record {
    legal = k.legal;
    may_act = k.may_act;
    alive = λ runs. (spent.0, spent.1, one_some kept some, but_book b.next v (sight h) (k.alive runs), (k.alive runs).listing);
  }
  aside_fails NoMemory spent h k = k

-- ---- lists

pub empty : {X : Type 0} (xs : List X) → true ≡ (length xs == 0) → xs ≡ []
empty [] e = refl
empty (x ∷ xs) e = absurd (let z : ⊥ = grind (arith, e) in z)

pub none_there : {X : Type 0} (xs : List X) → not (length xs == 0) ≡ false → xs ≡ []
none_there [] e = refl
none_there (x ∷ xs) e = absurd (let z : ⊥ = grind (arith, e) in z)
