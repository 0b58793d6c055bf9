-- The exits of a step of one adaptor: what it leaves at each, and what the told history then holds.
use Rattle.std.proofs.Common.{◌≡◌, ℕ, zero, suc, ◌+◌, ◌<◌, ◌^◌, true, false, List, [], ◌∷◌, length}
use Rattle.std.proofs.Common.{Some, Option, Result, Ok, Err, ap, sym, subst, ◌∙◌, refl, arith}
use Rattle.std.proofs.Common.{is_ok, true≢false, bytes_eq}
use Rattle.std.specs.Prelude.{IsTrue, IfOk, Contains, slice_get, slice_index, slice_set}
use Rattle.std.proofs.lemmas.Bool.{ltb-true}
use Rattle.std.proofs.lemmas.Option.{same_Some}
use Rattle.chk_bytes.specs.declared.NoMemory.{NoMemory as Wanting}
use Rattle.chk_bytes.specs.Numbers.{limit}
use Rattle.chk_bytes.specs.Words.{is_word}
use Rattle.chk_site.specs.declared.acts.OutsideFault.{OutsideFault}
use Rattle.chk_site.specs.History.{History, is_stopped}
use Rattle.chk_site.specs.Site.{Adds}
use Rattle.chk_site.specs.Runs.{Leads}
use Rattle.chk_site.specs.declared.acts.Role.TheVariants.{Agent}
use Rattle.chk_site.specs.declared.acts.Who.{Who}
use Rattle.chk_site.specs.Runs.{Side}
use Rattle.chk_site.proofs.Runs.{adds_both}
use Rattle.chk_site.proofs.Leads.{leads_as}
use Rattle.std.proofs.lemmas.Bool.{and_parts}
use Rattle.chk_world.specs.Streams.{whole_end}
use Rattle.chk_world.proofs.Ends.{bytes_same}
use Rattle.chk_world.proofs.CheckpointsMove.{found}
use Rattle.chk_world.proofs.AgentDoes.{IsReaderOf}
use Rattle.chk_acks.specs.Sound.{IsSound as IsSoundTable}
use Rattle.chk_chunk.specs.Keys.{is_chunk}
use Rattle.chk_chunk.specs.declared.Chunk.{Chunk}
use Rattle.chk_chunk.specs.Lent.{chunk_of}
use Rattle.chk_tail.specs.declared.step.Step.{Step}
use Rattle.chk_tail.specs.declared.step.Step.TheVariants.{Bytes, AtEnd, Shrank as is_short}
use Rattle.chk_tail.specs.Given.{IsGiven}
use Rattle.chk_tail.specs.Walks.{Spot}
use Rattle.chk_rotate.specs.Marks.{RiseTo}
use Rattle.chk_world.specs.Checkpoints.{is_after_text, is_line_of}
use Rattle.chk_world.specs.Places.{As}
use Rattle.chk_agent_adaptor.specs.Adaptors.{Adaptor, is_stepped, stream_at, read_line, IsPlaced}
use Rattle.chk_agent_adaptor.specs.Steps.{IsStepped, stepped, way_of}
use Rattle.chk_agent_delivery.specs.States.{State as Delivery}
use Rattle.chk_agent_delivery.specs.Sound.{IsSound as IsSoundDelivery, next_begins}
use Rattle.chk_agent_delivery.specs.Turns.{is_held, with_chunk}
use Rattle.chk_agent.specs.declared.answers.AgentFault.{AgentFault}
use Rattle.chk_agent.specs.declared.answers.AgentFault.TheVariants.{NoMemory}
use Rattle.chk_agent.specs.declared.answers.Stepped.{Stepped}
use Rattle.chk_agent.specs.declared.answers.Stepped.TheVariants.{AtEnd as step_at_end}
use Rattle.chk_agent.specs.declared.answers.Stepped.TheVariants.{Shrank as step_shrank}
use Rattle.chk_agent.specs.States.{State, process, committed_at, chunk_given}
use Rattle.chk_agent.specs.Fills.{queued, after_step, step_answer, IsOneStepped, made, unkept}
use Rattle.chk_agent.specs.Facts.{Holds, Matches, AfterStep, AtEndOf}
use Rattle.chk_agent.specs.Fits.{mark_line, IsMarked, IsSound}
use Rattle.chk_agent.specs.Within.{chunk_made}
use Rattle.chk_agent_table.specs.Adaptors.{Held, StepsAt}
use Rattle.chk_agent.proofs.SteppingWalks.{given_size, GivenFrom, WalkEnds, walk_ends}
use Rattle.chk_agent.proofs.SteppingSound.{spelled_of, known_end, sound_step, valid_given}
use Rattle.chk_agent.proofs.SteppingHolds.{IsValid}
use Rattle.chk_agent.proofs.Soundness.{in_at, below_at, past_line}
use Rattle.chk_agent.proofs.SettlingTold.{state_grows}
use Rattle.chk_agent.proofs.SteppingEnds.{walk_ends_told}
use Rattle.chk_agent.proofs.SteppingTold.{stream_stepped, made_told, step_on}

-- what holds of a value that is there
pub if_ok : {T E : Type 0} (r : Result T E) (P Q : T → Type 0) → ((x : T) → P x → Q x) → IfOk r P → IfOk r Q
if_ok (Ok x) P Q less p = less x p
if_ok (Err fault) P Q less p = tt

-- one that is put in its own place
pub set_own : (xs : List Adaptor) (i : ℕ) (a : Adaptor) → slice_get xs i ≡ Some a → slice_set xs i a ≡ xs
set_own [] i a at = refl
set_own (x ∷ xs) zero a at = ap (λ y. y ∷ xs) (sym (same_Some x a at))
set_own (x ∷ xs) (suc i) a at = ap (λ ys. x ∷ ys) (set_own xs i a at)

pub set_twice : (xs : List Adaptor) (i : ℕ) (b c : Adaptor) → slice_set (slice_set xs i b) i c ≡ slice_set xs i c
set_twice [] i b c = refl
set_twice (x ∷ xs) zero b c = refl
set_twice (x ∷ xs) (suc i) b c = ap (λ ys. x ∷ ys) (set_twice xs i b c)

pub set_there : (xs : List Adaptor) (i : ℕ) (b : Adaptor) → i < length xs → slice_get (slice_set xs i b) i ≡ Some b
set_there [] i b below = absurd (let z : ⊥ = omega (arith, below) in z)
set_there (x ∷ xs) zero b below = refl
set_there (x ∷ xs) (suc i) b below = set_there xs i b (omega (arith, below))

read_within : (a : Adaptor) → IsMarked a → a.read.offset < 2 ^ 63
read_within a h = go a.marks h.placed.rises (λ m one. ltb-true a.read.offset limit (spelled_of (mark_line a m) (h.spelled m one)).within)
  where
    go : (marks : List Spot) → RiseTo marks a.read.offset → ((m : Spot) → Contains marks m → a.read.offset < 2 ^ 63) → a.read.offset < 2 ^ 63
    go [] rise all = absurd rise
    go (m ∷ marks) rise all = all m (0, omega arith, refl)

-- ---- a step that was made or refused

-- `At` are the adaptors then: the one at this number is another one
module _ (s : State) (sound : IsSound s) (i : ℕ) (a b : Adaptor)
    (at : slice_get s.adaptors i ≡ Some a)
    (At : List Adaptor) (set : At ≡ slice_set s.adaptors i b) where
  module _ (step : Step) {old new : Option History} (st : IsStepped (process s) a (Ok step) b old new) where
    ends : WalkEnds (way_of (process s) a) step a.read st.next st.marks
    ends = walk_ends (way_of (process s) a) step st.next a.read st.marks st.walks

    ends_within : IsGiven step → st.next.offset < 2 ^ 63
    ends_within given =
        let offset = ends.offset in
        let read = read_within a (sound.each i a at).place.marked in
        by step given ends.given offset read
      where
        by : (step : Step) → IsGiven step → GivenFrom a.read.offset step → st.next.offset ≡ a.read.offset + given_size step
            → a.read.offset < 2 ^ 63 → st.next.offset < 2 ^ 63
        by (Bytes bytes end) given from offset read = let most = given.1 in let is = from.1 in omega (arith, most, is, offset)
        by AtEnd given from offset read = omega (arith, offset, read)
        by (is_short had size) given from offset read = omega (arith, offset, read)

    -- the state is sound once it was made
    pub made_sound : IsGiven step → is_stepped a.phase ≡ true → IsPlaced b → (d : Delivery) → d ≡ queued s i a step s.delivery
        → IsSoundTable s.delivery.table → IsSoundDelivery d → IsSound (record s { adaptors = At; last = Some i; delivery = d })
    made_sound given on placed d is table left =
        let b_is : b ≡ stepped st.marks st.next (Ok step) a = st.is in
        subst IsSound
        (sym (λ k. record s {
          adaptors = (set ∙ ap (slice_set s.adaptors i) b_is) k;
          last = Some i;
          delivery = is k;
        }))
        (sound_step s sound i a at step st.next st.marks ends on (ends_within given) (subst IsPlaced b_is placed) table.as_many
        (subst IsSoundDelivery is left))

    made_is : (d : Delivery) → d ≡ queued s i a step s.delivery → record s { adaptors = At; last = Some i; delivery = d } ≡ after_step i step a b s
    made_is d is = λ k. record s { adaptors = set k; last = Some i; delivery = is k }

    pub made_state : (d : Delivery) → d ≡ queued s i a step s.delivery → is_held s.delivery ≡ false
        → IsOneStepped i a s (Ok (step_answer step)) (record s { adaptors = At; last = Some i; delivery = d }) old new
    made_state d is room = subst (λ t. IsOneStepped i a s (Ok (step_answer step)) t old new) (sym (made_is d is)) (made b step room st)

    pub made_on : (stamped : List (List ℕ)) → s.ready ≡ true → IsTrue (is_after_text a.read.after) → IsPlaced b → IsValid s a step → (d : Delivery)
        → d ≡ queued s i a step s.delivery
        → Adds old new (Leads (As stamped (process s)) (Matches stamped s) (Matches stamped (record s { adaptors = At; last = Some i; delivery = d })))
    made_on stamped ready named placed valid d is =
        leads_as (λ h x. x) (λ h x. subst (λ t. Matches stamped t h) (sym (made_is d is)) x)
        (made_told stamped s sound ready i a b at named placed (Ok step) st step refl valid)

    -- it is undone
    pub undone_state : is_held s.delivery ≡ false → IsOneStepped i a s (Err NoMemory) s old new
    undone_state room = unkept b step room st

  -- the adaptor is as it was
  pub own_state : b ≡ a → record s { adaptors = At } ≡ s
  own_state is =
      λ k. record s {
        adaptors = (set
            ∙ (ap (slice_set s.adaptors i) is ∙ set_own s.adaptors i a at)) k;
      }

  -- ---- the chunk of what was given

  module _ (bytes : List ℕ) (end : ℕ) {old new : Option History} (st : IsStepped (process s) a (Ok (Bytes bytes end)) b old new)
      (given : IsGiven (Bytes bytes end)) where
    pub chunk_is : chunk_made s.source s.cluster b bytes end ≡ chunk_given s a bytes end
    chunk_is = ap (λ b. chunk_made s.source s.cluster b bytes end) st.is

    from : GivenFrom a.read.offset (Bytes bytes end)
    from = (walk_ends (way_of (process s) a) (Bytes bytes end) st.next a.read st.marks st.walks).given

    pub chunk_valid : IsTrue (is_word s.source) → IsTrue (is_word s.cluster) → is_chunk (chunk_of (chunk_given s a bytes end)) ≡ true
    chunk_valid source cluster =
        let most = given.1 in
        valid_given s sound i a at bytes end from given.0 (omega (arith, most)) source cluster

    pub chunk_next : end ≡ slice_index (next_begins s.delivery) i + length bytes
    chunk_next = from.1 ∙ ap (λ k. k + length bytes) (sym (sound.each i a at).place.queued)

    pub chunk_known : IsSoundTable s.delivery.table → i < length (next_begins s.delivery)
    chunk_known table = known_end s sound i a at table.as_many

-- ---- after a step

pub after_of : (stamped : List (List ℕ)) (s t : State) (i : ℕ) (result : Result Stepped AgentFault) → ((h : History) → AtEndOf i t result h)
    → {old new : Option History} → Adds old new (Leads (As stamped (process s)) (Matches stamped s) (Matches stamped t))
    → Adds old new (Leads (As stamped (process s)) (Matches stamped s) (AfterStep stamped i t result))
after_of stamped s t i result whole told = leads_as (λ h x. x) (λ h x. record { matches = x; whole = whole h }) told

-- ---- at the end of the log

leads_both : {S : Side} {A B C : History → Type 0} {old new : Option History} → Adds old new (Leads S A B) → Adds old new (Leads S A C)
    → Adds old new (Leads S A (λ h. B h × C h))
leads_both {S = S} {A = A} {B = B} {C = C} p q =
    adds_both (Leads S A (λ h. B h × C h)) p q (λ added history x y. record { leads = λ s h. (x.leads s h, y.leads s h); own = x.own })

reader_at_end : (s : State) (sound : IsSound s) (i : ℕ) (a : Adaptor) → slice_get s.adaptors i ≡ Some a → IsReaderOf s.source s.saved (read_line a)
reader_at_end s sound i a at =
    let fit = sound.each i a at in
    let past = past_line s.source s.saved _ (committed_at s i) a fit in
    let f = found (is_line_of (stream_at s.source a)) s.saved fit.saved fit.there in
    record {
      line = fit.saved;
      one = f.one;
      there = fit.there;
      path = sym (bytes_same a.path fit.saved.path (and_parts (bytes_eq a.kind fit.saved.kind) (bytes_eq a.path fit.saved.path) f.passes).1);
      class = past.class;
      start = past.start;
      behind = past.behind;
      past = past.past;
    }

pub end_on : (s : State) (sound : IsSound s) (i : ℕ) (a b : Adaptor)
    (at : slice_get s.adaptors i ≡ Some a)
    (xs : List Adaptor) (set : xs ≡ slice_set s.adaptors i b) {old new : Option History}
    → IsStepped (process s) a (Ok AtEnd) b old new → (stamped : List (List ℕ)) → s.ready ≡ true → IsTrue (is_after_text a.read.after) → IsPlaced b
    → Adds old new (Leads (As stamped (process s)) (Matches stamped s)
    (AfterStep stamped i (record s { adaptors = xs; last = Some i }) (Ok step_at_end)))
end_on s sound i a b at xs set {old = old} {new = new} st stamped ready named placed =
    leads_as (λ h x. x) (λ h x. record {
      matches = x.0;
      whole = λ run c there.
          let same : c ≡ b = sym (same_Some b c (sym (ap (λ ys. slice_get ys i) set
          ∙ set_there s.adaptors i b (below_at s.adaptors i a at)) ∙ there)) in
          let stream : stream_at s.source c ≡ stream_at s.source a =
          ap (stream_at s.source) same ∙ stream_stepped s.source a b (Ok AtEnd) st in
          ap (whole_end h) stream ∙ ((x.1.alive run).holds.two ∙ sym (ap (λ (c : Adaptor). c.read.offset) (same ∙ st.is)));
    })
    (leads_both (made_on s sound i a b at xs set AtEnd st stamped ready named placed tt s.delivery
    refl)
    (leads_as (λ h x. record { legal = x.legal; may_act = x.may_act; alive = λ run. x.alive run ready }) (λ h x. x)
    (walk_ends_told stamped s.source sound.source s.cluster s.saved (read_line a) st.next (Holds s) (state_grows stamped s sound) a.read st.marks
    (reader_at_end s sound i a at) named (λ h x. (x.readers a (in_at s.adaptors i a at)).read) st.walks)))

-- ---- at a log that is shorter than the place, which never comes

pub short_on : (s : State) (sound : IsSound s) (i : ℕ) (a b : Adaptor)
    (at : slice_get s.adaptors i ≡ Some a)
    (xs : List Adaptor) (set : xs ≡ slice_set s.adaptors i b) (had size : ℕ)
    {old new : Option History} → IsStepped (process s) a (Ok (is_short had size)) b old new → (stamped : List (List ℕ)) → s.ready ≡ true
    → IsTrue (is_after_text a.read.after) → IsPlaced b
    → Adds old new (Leads (As stamped (process s)) (Matches stamped s)
    (AfterStep stamped i (record s { adaptors = xs; last = Some i }) (Ok (step_shrank had size))))
short_on s sound i a b at xs set had size st stamped ready named placed =
    leads_as (λ h x. record { legal = x.legal; may_act = x.may_act; alive = λ run. x.alive run ready })
    (λ h x.
    let never : is_stopped h ≡ false → ⊥ = λ run. (x.alive run).holds.two.long in
    record {
      matches = record { legal = x.legal; may_act = x.may_act; alive = λ run. absurd (never run) };
      whole = never;
    })
    (step_on stamped s sound ready i a b at named placed (Ok (is_short had size)) st)

-- ---- what the calls gave

-- a step of the adaptor, as its call tells
pub record WasStepped (s : State) (a b : Adaptor) (result : Result Step OutsideFault) (old new : Option History) : Type 0 where
  pub step : IsStepped (process s) a result b old new
  pub named : IsTrue (is_after_text a.read.after)
  pub placed : IsPlaced b

pub was_stepped : (w : Who) (s : State) (x a b : Adaptor) (got result : Result Step OutsideFault) {old new : Option History} → w.role ≡ Agent
    → w.name ≡ s.source → x ≡ a → got ≡ result → IsStepped w x got b old new → IsTrue (is_after_text x.read.after) → IsPlaced b
    → WasStepped s a b result old new
was_stepped w s x a b got result {old = old} {new = new} role name same is step named placed = record {
  step =
      subst (λ (w : Who). IsStepped w a result b old new) (λ i. record { role = role i; name = name i })
      (subst (λ x. IsStepped w x result b old new) same (subst (λ r. IsStepped w x r b old new) is step));
  named = subst (λ (x : Adaptor). IsTrue (is_after_text x.read.after)) same named;
  placed = placed;
}

-- what a step of the adaptor at a number made, as its call tells
pub record SteppedAt (s : State) (i : ℕ) (a : Adaptor) (xs : List Adaptor)
    (result : Result Step OutsideFault)
    (old new : Option History) : Type 0 where
  pub b : Adaptor
  pub there : slice_get xs i ≡ Some b
  pub set : xs ≡ slice_set s.adaptors i b
  pub was : WasStepped s a b result old new

pub stepped_at : (w : Who) (s : State) (i : ℕ) (a : Adaptor) (h k : Held)
    (got result : Result Step OutsideFault)
    {old new : Option History} → w.role ≡ Agent → w.name ≡ s.source → h.items ≡ s.adaptors
    → got ≡ result
    → StepsAt i w a h got k old new → IsTrue (is_after_text a.read.after)
    → ((b : Adaptor) → slice_get k.items i ≡ Some b → IsPlaced b)
    → SteppedAt s i a k.items result old new
stepped_at w s i a h k got result role name same is st named placed = record {
  b = st.adaptor;
  there = st.there;
  set = ap (λ (h : Held). h.items) st.others ∙ ap (λ xs. slice_set xs i st.adaptor) same;
  was = was_stepped w s a a st.adaptor got result role name refl is st.made named
      (placed st.adaptor st.there);
}

-- the chunk that was kept
pub put_is : (r : Result Chunk Wanting) (c : Chunk) (i : ℕ) (d e : Delivery) → is_ok r ≡ true → IfOk r (λ k. k ≡ c) → IfOk r (λ k. e ≡ with_chunk i k d)
    → e ≡ with_chunk i c d
put_is (Ok k) c i d e there is put = put ∙ ap (λ k. with_chunk i k d) is
put_is (Err fault) c i d e there is put = absurd (true≢false (sym there))

-- an adaptor that was put back leaves the state as it was
pub undone_is : (s : State) (i : ℕ) (a b : Adaptor) (xs ys : List Adaptor) (d : Delivery)
    → slice_get s.adaptors i ≡ Some a
    → xs ≡ slice_set s.adaptors i b → ys ≡ slice_set xs i a → d ≡ s.delivery
    → record s { adaptors = ys; delivery = d } ≡ s
undone_is s i a b xs ys d at set back kept =
    λ k. record s {
      adaptors = (back ∙ (ap (λ zs. slice_set zs i a) set
          ∙ (set_twice s.adaptors i b a ∙ set_own s.adaptors i a at))) k;
      delivery = kept k;
    }
