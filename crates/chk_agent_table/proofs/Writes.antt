-- What a write at one place makes of the adaptors.
use Rattle.std.proofs.Common.{◌≡◌, ℕ, ◌<◌, false, List, length, map, min, Some, Result, Ok, Err}
use Rattle.std.proofs.Common.{refl, sym, ap, subst, ◌∙◌, true≢false, arith}
use Rattle.std.proofs.lemmas.Bool.{false≢true}
use Rattle.std.specs.Prelude.{IsTrue, slice_get}
use Rattle.std.specs.String.{string_bytes}
use Rattle.std.specs.HashMap.{get_by_text}
use Rattle.std.proofs.lemmas.List.{length-map}
use Rattle.std.proofs.lemmas.Option.{same_Some}
use Rattle.indexmap.specs.IndexMap.{keys, values, spare, with_value_at}
use Rattle.chk_site.specs.declared.acts.OutsideFault.{OutsideFault}
use Rattle.chk_tail.specs.Walks.{Spot}
use Rattle.chk_tail.specs.declared.step.Step.{Step}
use Rattle.chk_tail.specs.declared.step.Step.TheVariants.{Bytes, AtEnd, Shrank as is_short}
use Rattle.chk_agent_adaptor.specs.declared.adaptor.Phase.{Phase}
use Rattle.chk_agent_adaptor.specs.declared.adaptor.Phase.TheVariants.{Live, Stopping, Shrank, Past}
use Rattle.chk_agent_adaptor.specs.Adaptors.{Adaptor, is_past, is_stepped, phase_at, phase_back}
use Rattle.chk_agent_adaptor.specs.Adaptors.{phase_to_end, sent_back, settled_one, shut_down, stopped}
use Rattle.chk_agent_adaptor.specs.Steps.{phase_after, stepped}
use Rattle.chk_agent_table.specs.declared.adaptors.Adaptors.TheInside.{Inside}
use Rattle.chk_agent_table.specs.Adaptors.{Held, with_at}
use Rattle.chk_agent_table.specs.Fields.{IsSound, IsSoundInside, held_view}
use Rattle.chk_agent_table.proofs.Places.{keys_set, values_set, set_same}
use Rattle.chk_agent_table.proofs.Tables.{Alike, changed}

-- ---- none becomes live

settles_past : (o : ℕ) (p : Phase) → is_past (phase_at o p) ≡ false → is_past p ≡ false
settles_past o Live h = refl
settles_past o (Stopping end) h = refl
settles_past o Shrank h = refl
settles_past o Past h = h

backs_past : (p : Phase) → is_past (phase_back p) ≡ false → is_past p ≡ false
backs_past Live h = refl
backs_past (Stopping end) h = refl
backs_past Shrank h = refl
backs_past Past h = h

ends_past : (p : Phase) → is_past (phase_to_end p) ≡ false → is_past p ≡ false
ends_past Live h = refl
ends_past (Stopping end) h = refl
ends_past Shrank h = refl
ends_past Past h = h

goes_on : (step : Step) (next : Spot) (p : Phase) → is_past p ≡ false
    → is_past (phase_after step next p) ≡ false
goes_on AtEnd next Live h = refl
goes_on AtEnd next (Stopping end) h = refl
goes_on AtEnd next Shrank h = refl
goes_on AtEnd next Past h = h
goes_on (is_short had is) next p h = refl
goes_on (Bytes bytes end) next p h = h

pub is_live : (p : Phase) → IsTrue (is_stepped p) → is_past p ≡ false
is_live Live h = refl
is_live (Stopping end) h = refl
is_live Shrank h = refl
is_live Past h = absurd (false≢true h)

alike_by : (a b c : Adaptor) → b ≡ c → c.name ≡ a.name → c.kind ≡ a.kind → c.path ≡ a.path
    → (is_past c.phase ≡ false → is_past a.phase ≡ false) → Alike a b
alike_by a b c is name kind path past = record {
  name = ap (λ (r : Adaptor). r.name) is ∙ name;
  kind = ap (λ (r : Adaptor). r.kind) is ∙ kind;
  path = ap (λ (r : Adaptor). r.path) is ∙ path;
  past = λ live. past (sym (ap (λ (r : Adaptor). is_past r.phase) is) ∙ live);
}

pub settled_alike : (o : ℕ) (a b : Adaptor) → b ≡ settled_one o a → Alike a b
settled_alike o a b is = alike_by a b (settled_one o a) is refl refl refl (settles_past o a.phase)

pub back_alike : (o : ℕ) (a b : Adaptor) → b ≡ sent_back o a → Alike a b
back_alike o a b is = alike_by a b (sent_back o a) is refl refl refl (backs_past a.phase)

pub ending_alike : (a b : Adaptor) → b ≡ shut_down a → Alike a b
ending_alike a b is = alike_by a b (shut_down a) is refl refl refl (ends_past a.phase)

pub stopped_alike : (o : ℕ) (a b : Adaptor) → b ≡ stopped o a → Alike a b
stopped_alike o a b is = alike_by a b (stopped o a) is refl refl refl (λ h. absurd (true≢false h))

pub step_alike : (marks : List Spot) (next : Spot) (result : Result Step OutsideFault)
    (a b : Adaptor)
    → b ≡ stepped marks next result a → is_past a.phase ≡ false → Alike a b
step_alike marks next (Ok step) a b is live =
    alike_by a b (stepped marks next (Ok step) a) is refl refl refl (λ h. live)
step_alike marks next (Err fault) a b is live = alike_by a b a is refl refl refl (λ h. live)

pub undone_alike : (marks : List Spot) (next : Spot) (step : Step) (now was b : Adaptor)
    → now ≡ stepped marks next (Ok step) was → b ≡ was → Alike now b
undone_alike marks next step now was b is back = record {
  name = ap (λ (r : Adaptor). r.name) back ∙ sym (ap (λ (r : Adaptor). r.name) is);
  kind = ap (λ (r : Adaptor). r.kind) back ∙ sym (ap (λ (r : Adaptor). r.kind) is);
  path = ap (λ (r : Adaptor). r.path) back ∙ sym (ap (λ (r : Adaptor). r.path) is);
  past = λ live.
      ap (λ (r : Adaptor). is_past r.phase) is
      ∙ goes_on step next was.phase (sym (ap (λ (r : Adaptor). is_past r.phase) back) ∙ live);
}

-- ---- a write

module _ (i : Inside) (n : ℕ) where
  abbrev pub written : Adaptor → Inside
  written new = record i { streams = with_value_at i.streams n new }

  pub writes : (old new : Adaptor) → IsSoundInside i → slice_get (values i.streams) n ≡ Some old
      → Alike old new
      → IsSoundInside (written new)
  writes old new s at alike =
      subst (λ ks. IsSound ks (values (with_value_at i.streams n new)) (get_by_text i.names))
      (sym (keys_set string_bytes i.streams.entries n new))
      (subst (λ xs. IsSound (map string_bytes (keys i.streams)) xs (get_by_text i.names))
      (sym (values_set i.streams.entries n new))
      (changed (map string_bytes (keys i.streams)) (values i.streams)
      (get_by_text i.names) s n old new at alike))

  -- the new one stands there
  pub stands : (old new : Adaptor) → slice_get (values i.streams) n ≡ Some old
      → slice_get (values (with_value_at i.streams n new)) n ≡ Some new
  stands old new at =
      ap (λ xs. slice_get xs n) (values_set i.streams.entries n new)
      ∙ set_same (values i.streams) n old new at

  module _ (h : Held) (is : held_view i ≡ h) where
    pub below : n < length h.items → n < length i.streams.entries
    below lt =
        let same = ap (λ (h : Held). length h.items) is in
        let size = length-map i.streams.entries (λ e. e.1) in
        omega (arith, same, size, lt)

    pub there : (a : Adaptor) → slice_get h.items n ≡ Some a → slice_get (values i.streams) n
        ≡ Some a
    there a at = ap (λ (h : Held). slice_get h.items n) is ∙ at

    pub same_at : (x a : Adaptor) → slice_get (values i.streams) n ≡ Some x → slice_get h.items n
        ≡ Some a → x ≡ a
    same_at x a here at = same_Some x a (sym here ∙ there a at)

    pub seen_written : (new : Adaptor) → held_view (written new) ≡ with_at n new h
    seen_written new =
        ap (λ xs. record { items = xs; spare = min (spare i.streams) (spare i.names) })
        (values_set i.streams.entries n new)
        ∙ ap (with_at n new) is

    pub one_changed : (x new a : Adaptor) (f : Adaptor → Adaptor) → slice_get (values i.streams) n
        ≡ Some x → new ≡ f x
        → slice_get h.items n ≡ Some a → held_view (written new) ≡ with_at n (f a) h
    one_changed x new a f here made at =
        seen_written new ∙ ap (λ b. with_at n b h) (made ∙ ap f (same_at x a here at))
