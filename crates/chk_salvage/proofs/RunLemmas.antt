-- Runs of a reader that is fed.
use Rattle.std.proofs.Common.{◌≡◌, ℕ, zero, suc, ◌+◌, ◌≤◌, List, [], ◌∷◌, ◌++◌, length, take, drop, Option, Some, None, Ok, Err, arith, refl, ap, ap₂, sym, subst, ◌∙◌}
use Rattle.std.proofs.lemmas.List.{length-append, length-take-le, take_all, take-append-drop, take-append-le, append_assoc, append-nil}
use Rattle.std.proofs.lemmas.List.Elements.{filter-append}
use Rattle.std.proofs.lemmas.Bool.{lt-leb, cond-false}
use Rattle.std.specs.Prelude.{nat_le}
use Rattle.chk_seqfile.specs.Headers.{read_header}
use Rattle.chk_seqfile.specs.Entries.{Entry, NoEntry, SyncEntry, RecordEntry, Damaged, entry_at, size_of_record, Placed, placed, records_from, records_at, records_behind, records_of, ending_by}
use Rattle.chk_seqfile.proofs.FileLemmas.{records_of-append, records_of-cut}
use Rattle.chk_salvage.specs.Front.{IsReadSo}
use Rattle.chk_salvage.specs.Feeding.{fed_place, fed_marker, IsFedSo, IsFed, record_fed}
use Rattle.chk_salvage.specs.Runs.{Act, Feeds, Gives, fed_by, given_by, Runs}
use Rattle.chk_salvage.specs.declared.pieces.Pieces.{Pieces}
use Rattle.chk_salvage.proofs.FeedLemmas.{fed_more, records_of-nil}

-- ---- the records up to a place

-- the records from a place on, given what stands first
abbrev after : ℕ → List ℕ → ℕ → List ℕ → Entry → List Placed
after fuel marker at bytes NoEntry = []
after fuel marker at bytes SyncEntry = records_from fuel marker (at + 20) (drop 20 bytes)
after fuel marker at bytes (RecordEntry key value) =
    placed at key value ∷ records_from fuel marker (at + size_of_record key value) (drop (size_of_record key value) bytes)
after fuel marker at bytes (Damaged why) = []

-- records that are read from a place on end past it
ending_by-before : (fuel : ℕ) (marker : List ℕ) (at n : ℕ) (bytes : List ℕ) → n ≤ at → ending_by n (records_from fuel marker at bytes) ≡ []
ending_by-before zero marker at n bytes before = refl
ending_by-before (suc fuel) marker at n bytes before =
    elim (entry_at marker bytes) as (λ e. ending_by n (after fuel marker at bytes e) ≡ []) [
      | NoEntry ↦ refl
      | SyncEntry ↦ ending_by-before fuel marker (at + 20) n (drop 20 bytes) (omega arith)
      | RecordEntry key value ↦
          let size : ℕ = size_of_record key value in
          cond-false _ _ _ (lt-leb (at + size) n (omega arith))
          ∙ ending_by-before fuel marker (at + size) n (drop size bytes) (omega arith)
      | Damaged why ↦ refl
    ]

-- none end by the start
none_by_start : (bytes : List ℕ) → ending_by 0 (records_of bytes) ≡ []
unfolding records_of
none_by_start bytes = elim (read_header bytes) as (λ r. ending_by 0 (records_behind r bytes) ≡ []) [
  | Ok head ↦ ending_by-before (length (drop head.end bytes)) head.marker head.end 0 (drop head.end bytes) (omega arith)
  | Err fault ↦ refl
]

-- what was read up to a place are the records that end by it
records_by_place : (marker fed : List ℕ) (place : ℕ) → IsReadSo marker fed place → records_of (take place fed) ≡ ending_by place (records_of fed)
records_by_place marker fed place so =
    let front : List ℕ = take place fed in
    let rest : List ℕ = drop place fed in
    let f = so.file in
    let size : length front ≡ place = length-take-le place fed so.within in
    let parts : length front ≡ length f.head + length f.entries = ap length f.is ∙ length-append f.head f.entries in
    let whole : records_of fed ≡ records_of front ++ records_at f.marker (length front) rest =
    ap records_of (sym (take-append-drop place fed)) ∙ records_of-append front rest f in
    let first : records_of front ≡ ending_by place (records_of front) =
    ap records_of (sym (take_all place front (omega (arith, size)))) ∙ records_of-cut front f place (omega (arith, size, parts)) in
    let others : ending_by place (records_at f.marker (length front) rest) ≡ [] =
    ending_by-before (length rest) f.marker (length front) place rest (omega (arith, size)) in
    sym (
    ap (ending_by place) whole
    ∙ filter-append (λ r. nat_le r.end place) (records_of front) (records_at f.marker (length front) rest)
    ∙ ap₂ (λ a b. a ++ b) (sym first) others
    ∙ append-nil (records_of front)
    )

records_by : (marker : Option (List ℕ)) (fed : List ℕ) (place : ℕ) → IsFedSo marker fed place → records_of (take place fed) ≡ ending_by place (records_of fed)
records_by None fed place so =
    ap (λ n. records_of (take n fed)) so ∙ records_of-nil ∙ sym (ap (λ n. ending_by n (records_of fed)) so ∙ none_by_start fed)
records_by (Some marker) fed place so = records_by_place marker fed place so

-- ---- runs

runs_give : (acts : List Act) (p q : Pieces) (fed : List ℕ) → IsFed p fed → Runs p acts q
    → IsFed q (fed ++ fed_by acts)
    × (records_of (take (fed_place p) fed) ++ given_by acts ≡ records_of (take (fed_place q) (fed ++ fed_by acts)))
runs_give [] p q fed h same =
    let last : IsFed q fed = subst (λ r. IsFed r fed) same h in (
      subst (IsFed q) (sym (append-nil fed)) last,
      append-nil (records_of (take (fed_place p) fed))
          ∙ ap₂ (λ r bytes. records_of (take (fed_place r) bytes)) same (sym (append-nil fed)),
    )
runs_give (Feeds piece ∷ acts) p q fed h (r, was, further) =
    let then = runs_give acts r q (fed ++ piece) (fed_more p r fed piece was.marker was.place was.rest h) further in
    let bytes : (fed ++ piece) ++ fed_by acts ≡ fed ++ (piece ++ fed_by acts) = append_assoc fed piece (fed_by acts) in
    let front : take (fed_place p) fed ≡ take (fed_place r) (fed ++ piece) =
    sym (take-append-le (fed_place p) fed piece h.within) ∙ ap (λ n. take n (fed ++ piece)) (sym was.place) in (
      subst (IsFed q) bytes then.0,
      ap (λ x. records_of x ++ given_by acts) front ∙ then.1 ∙ ap (λ x. records_of (take (fed_place q) x)) bytes,
    )
runs_give (Gives answer ∷ acts) p q fed h (r, answered, further) =
    let gives = answered.by_fed fed h in
    let then = runs_give acts r q fed gives.state further in (
      then.0,
      sym (append_assoc (records_of (take (fed_place p) fed)) (record_fed answer) (given_by acts))
          ∙ ap (λ x. x ++ given_by acts) (sym gives.records) ∙ then.1,
    )

pub run_gives_records : (p q : Pieces) (acts : List Act) → IsFed p [] → Runs p acts q
    → IsFed q (fed_by acts) × (given_by acts ≡ ending_by (fed_place q) (records_of (fed_by acts)))
run_gives_records p q acts start run =
    let all = runs_give acts p q [] start run in
    let none : records_of (take (fed_place p) []) ≡ [] = ap records_of (take_all (fed_place p) [] (omega arith)) ∙ records_of-nil in (
      all.0,
      ap (λ x. x ++ given_by acts) (sym none) ∙ all.1 ∙ records_by (fed_marker q) (fed_by acts) (fed_place q) all.0.so,
    )
