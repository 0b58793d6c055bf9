-- What holds of the sink and the offset of each row stays so over polls.
use Rattle.std.proofs.Common.{◌≡◌, ℕ, suc, zero, Bool, true, false, not, if◌then◌else◌, List, [], ◌∷◌, map, Option, Some, None, Result, Ok, ap, sym, subst, ◌∙◌, refl, arith}
use Rattle.std.specs.Prelude.{Contains, filter, is_some, option_map}
use Rattle.std.proofs.lemmas.Option.{same_Some, none-some}
use Rattle.chk_bytes.specs.declared.NoMemory.{NoMemory as Wanting}
use Rattle.chk_bytes.specs.Stems.{Stem}
use Rattle.chk_http_grammar.specs.Messages.{Ack}
use Rattle.chk_site.specs.declared.acts.Who.{Who}
use Rattle.chk_site.specs.History.{History}
use Rattle.chk_acks.specs.declared.row.Row.{Row}
use Rattle.chk_acks.specs.Rows.{is_past, is_unmarked, marked_at}
use Rattle.chk_acks.specs.Table.{Table}
use Rattle.chk_sink.specs.States.{State as Sinks}
use Rattle.chk_agent_delivery.specs.declared.answers.Below.{Below}
use Rattle.chk_agent_delivery.specs.declared.answers.Polled.{Polled}
use Rattle.chk_agent_delivery.specs.declared.answers.PollAnswer.{PollAnswer}
use Rattle.chk_agent_delivery.specs.declared.answers.PollAnswer.TheVariants.{Lengths}
use Rattle.chk_agent_delivery.specs.Scripts as script
use Rattle.chk_agent_delivery.specs.Scripts.{IsPolled, IsPollReplied}
use Rattle.chk_agent_delivery.specs.States.{State as Delivery}
use Rattle.chk_agent_delivery.specs.Turns.{SeesAll, below_in, below_row, first_below, length_of}
use Rattle.chk_agent.specs.States.{State as Agents}
use Rattle.chk_exchange.specs.Exchanges as inside
use Rattle.chk_exchange.specs.Exchanges.{PollsInside}
use Rattle.chk_exchange.specs.OwnRows.{AllRows}
use Rattle.chk_exchange.proofs.Given.{given_is}
use Rattle.chk_round.specs.Lengths.{PollsOn}

pub all_rows : (P : Stem → ℕ → Type 0) (rows : List Row)
    → ((row : Row) → Contains rows row → P row.stem row.offset) → AllRows P rows
all_rows P [] each = tt
all_rows P (row ∷ rows) each = (
  each row (zero, omega arith, refl),
  all_rows P rows (λ r one. each r (let j = one.1 in (suc one.0, omega (arith, j), one.2))),
)

seen_rows : (P : Stem → ℕ → Type 0) (x : Stem) (n : ℕ) (ends : List ℕ) (rows : List Row) → AllRows P rows
    → AllRows P (filter (is_past ends) (map (marked_at x n) rows))
seen_rows P x n ends [] all = tt
seen_rows P x n ends (row ∷ rows) all =
    go (is_past ends (marked_at x n row)) (seen_rows P x n ends rows all.1)
  where
    go : (b : Bool) → AllRows P (filter (is_past ends) (map (marked_at x n) rows))
        → AllRows P (if b then marked_at x n row ∷ filter (is_past ends) (map (marked_at x n) rows)
        else filter (is_past ends) (map (marked_at x n) rows))
    go true rest = (all.0, rest)
    go false rest = rest

sees_rows : (P : Stem → ℕ → Type 0) (lengths : List Ack) (old new : Table) → SeesAll lengths old new
    → AllRows P old.rows → AllRows P new.rows
sees_rows P [] old new same all = subst (λ (t : Table). AllRows P t.rows) (sym same) all
sees_rows P (k ∷ lengths) old new (mid, sees, more) all =
    sees_rows P lengths mid new more
    (subst (AllRows P) (sym sees.rows) (seen_rows P k.stem k.number mid.committed old.rows all))

-- the row that is left below is one of them
row_below : (P : Stem → ℕ → Type 0) (lengths : List Ack) (rows : List Row) (x : Below) → AllRows P rows
    → first_below lengths (filter is_unmarked rows) ≡ Some x → P x.stem x.want
row_below P lengths [] x all e = absurd (none-some x e)
row_below P lengths (row ∷ rows) x all e =
    go (not row.marked) (λ q. row_below P lengths rows x all.1 q) e
  where
    at : (o : Option ℕ)
        → option_map {U = Below} (λ got. record { stem = row.stem; got = got; want = row.offset }) o ≡ Some x
        → P x.stem x.want
    at None q = absurd (none-some x q)
    at (Some n) q =
        subst (λ (b : Below). P b.stem b.want)
        (same_Some (record { stem = row.stem; got = n; want = row.offset }) x q) all.0

    pick : (b : Bool) → (first_below lengths (filter is_unmarked rows) ≡ Some x → P x.stem x.want)
        → (if b then below_row lengths row else first_below lengths (filter is_unmarked rows)) ≡ Some x
        → P x.stem x.want
    pick true later q = at (length_of row.stem lengths) q
    pick false later q = later q

    go : (m : Bool) → (first_below lengths (filter is_unmarked rows) ≡ Some x → P x.stem x.want)
        → first_below lengths (if m then row ∷ filter is_unmarked rows else filter is_unmarked rows) ≡ Some x
        → P x.stem x.want
    go true later q = pick (is_some (length_of row.stem lengths)) later q
    go false later q = later q

-- ---- a poll

table_sent : {who : Who} {d e : Delivery} {given : Result Polled Wanting} {old new : Option History}
    → IsPolled who d given e old new → e.table ≡ d.table
table_sent (script.none is) = refl
table_sent (script.sent bytes m written call) = refl
table_sent (script.failed bytes written call) = refl
table_sent (script.unsent fault) = refl
table_sent (script.refused fault bytes written call) = refl

record IsSeen (below : Option Below) (d e : Delivery) : Type 0 where
  lengths : List Ack
  table : Table
  sees : SeesAll lengths d.table table
  below_is : below_in lengths table ≡ below
  behind : e.table ≡ table

seen_by : {who : Who} {d e : Delivery} {given : Result PollAnswer Wanting} {old new : Option History}
    → IsPollReplied who d given e old new → (k : ℕ) (below : Option Below) → given ≡ Ok (Lengths k below)
    → IsSeen below d e
seen_by (script.nothing is) k below e = absurd (let z : ⊥ = cc in z)
seen_by (script.got p bytes is call (script.good {t = t} lengths good are sees)) k below e = record {
  lengths = lengths;
  table = t;
  sees = sees;
  below_is = let z : below_in lengths t ≡ below = cc in z;
  behind = refl;
}
seen_by (script.got p bytes is call (script.bad code none of)) k below e = absurd (let z : ⊥ = cc in z)
seen_by (script.silent p is call) k below e = absurd (let z : ⊥ = cc in z)
seen_by (script.wanting fault p is call) k below e = absurd (let z : ⊥ = cc in z)

-- the rows behind a poll, and the one that it leaves below
pub record ArePolled (P : Stem → ℕ → Type 0) (below : Option Below) (c : Agents) : Type 0 where
  pub behind : AllRows P c.delivery.table.rows
  pub left : (x : Below) → below ≡ Some x → P x.stem x.want

pub polled_rows : {who : Who} {s u : Sinks} {a c : Agents} {old new : Option History} (below : Option Below)
    → PollsInside who s a (Ok below) u c old new → (P : Stem → ℕ → Type 0)
    → AllRows P a.delivery.table.rows → ArePolled P below c
polled_rows {a = a} {c = c} below (inside.ended {b = b} count made sent serves (inside.taken is none gets)) P all =
    let first : b.delivery.table ≡ a.delivery.table =
    ap (λ (k : Agents). k.delivery.table) sent.state_is ∙ table_sent sent.made in
    let seen = seen_by gets.made count below (given_is gets.given (Lengths count below) gets.result_is) in
    let rows = sees_rows P seen.lengths b.delivery.table seen.table seen.sees
    (subst (λ (t : Table). AllRows P t.rows) (sym first) all) in
    let last : c.delivery.table ≡ seen.table = ap (λ (k : Agents). k.delivery.table) gets.state_is ∙ seen.behind in
    record {
      behind = subst (λ (t : Table). AllRows P t.rows) (sym last) rows;
      left = λ x e. row_below P seen.lengths seen.table.rows x rows (seen.below_is ∙ e);
    }

pub rows_on : {who : Who} {s : Sinks} {a : Agents} {t : Sinks} {b : Agents} {old new : Option History} → PollsOn who s a t b old new
    → (P : Stem → ℕ → Type 0) → AllRows P a.delivery.table.rows → AllRows P b.delivery.table.rows
rows_on PollsOn.begins P all = all
rows_on (PollsOn.goes_on on polls) P all = (polled_rows None polls P (rows_on on P all)).behind
