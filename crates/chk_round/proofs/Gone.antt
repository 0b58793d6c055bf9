-- No sink of the collector's start is gone before the job acts, but for those that were given up.
use Rattle.std.proofs.Common.{◌≡◌, inl, inr, ℕ, ◌<◌, Bool, true, false, ◌&&◌, ◌||◌, nat_lt, List, [], ◌∷◌, ◌++◌, length, length-append, Option, Some, None, ap, sym, ◌∙◌, refl, arith, true≢false, bytes_eq}
use Rattle.std.specs.Prelude.{Contains, IsFalse, IsTrue, codes}
use Rattle.std.proofs.lemmas.Bool.{cases_lt, lt-ltb}
use Rattle.std.proofs.lemmas.Option.{none-some}
use Rattle.chk_bytes.specs.Stems.{Stem, is_stem}
use Rattle.chk_bytes.proofs.StemLemmas.{stem_facts}
use Rattle.chk_site.specs.declared.acts.Role.{Role}
use Rattle.chk_site.specs.declared.acts.Role.TheVariants.{Agent, Collector, Job, Writer}
use Rattle.chk_site.specs.declared.acts.Who.{Who}
use Rattle.chk_site.specs.Acts.{deed, same_role, same_who}
use Rattle.chk_site.specs.Files.{File}
use Rattle.chk_site.specs.History.{Step, History, Every, Others, files_after, is_stopped}
use Rattle.chk_site.specs.Runs.{Owns}
use Rattle.chk_world.specs.Collectors.{view}
use Rattle.chk_world.specs.Committed.{HasFile}
use Rattle.chk_world.specs.DoneSinks.{IsGone}
use Rattle.chk_world.specs.Laws.{collector, wrote, written_by}
use Rattle.chk_world.specs.NamedEnds.{gave_up, gives_up}
use Rattle.chk_world.specs.Names.{DoneFile, SinkFile, file}
use Rattle.chk_world.specs.Rules.{Legal, is_named_so}
use Rattle.chk_world.specs.Sight.{job}
use Rattle.chk_world.specs.Together.{IsByOne, Outside as OutsideOf}
use Rattle.chk_world.proofs.Commits.{appended_there}
use Rattle.chk_world.proofs.Ends.{bytes_same, bytes_self}
use Rattle.chk_world.proofs.Law.{holds_always}
use Rattle.chk_world.proofs.OwnSteps.{known_stem}
use Rattle.chk_world.proofs.SightStays.{done_sinks_stay}
use Rattle.chk_world.proofs.SinksKept.{Long, stands_whole, step_keeps}
use Rattle.chk_agent.proofs.TalkingTold.{ran_before}
use Rattle.chk_sink.specs.Held.{Holds}
use Rattle.chk_sink.specs.States.{State as Sinks, process}
use Rattle.chk_round.specs.OwnRows.{NoneGone}
use Rattle.chk_round.proofs.Given.{pair, pair_apart}
use Rattle.chk_round.proofs.Reached.{gave_early}

-- ---- the job makes none of these steps

-- the step is by no job
abbrev pub IsNoJob : History → Step → Type 0
IsNoJob before step = same_role step.act.who.role Job ≡ false

-- a job that is named so is the one job
other_role : (role : Role) (name : List ℕ) → IsTrue (is_named_so role name) → IsFalse (same_who job (record { role = role; name = name }))
    → same_role role Job ≡ false
other_role Agent name named other = refl
other_role Collector name named other = refl
other_role Writer name named other = refl
other_role Job name named other = absurd (true≢false (sym (swapped name named) ∙ other))
  where
    swapped : (name : List ℕ) → bytes_eq name (codes "job") ≡ true → bytes_eq (codes "job") name ≡ true
    swapped name e = ap (bytes_eq (codes "job")) (bytes_same name (codes "job") e) ∙ bytes_self (codes "job")

pub no_job : (stamped : List (List ℕ)) (started : List Who) → Contains started job → (c n : List ℕ) (added history : History)
    → Others (OutsideOf stamped started) added history → Owns (IsByOne (pair c n)) added history
    → Every IsNoJob added history
no_job stamped started j_in c n [] history others own = tt
no_job stamped started j_in c n (step ∷ added) history others own = (
  no_job stamped started j_in c n added history others.0 own.0,
  go step.own refl,
)
  where
    go : (b : Bool) → step.own ≡ b → same_role step.act.who.role Job ≡ false
    go true e = pair_apart c n step.act.who (own.1 e).one
    go false e =
        let outside = others.1 e in
        other_role step.act.who.role step.act.who.name outside.obeys.named (outside.foreign job j_in).other

-- ---- one step

module _ (stamped : List (List ℕ)) (x : Stem) (known : IsTrue (is_stem x)) where
  no_long : (k : ℕ) (o : Option File) → Long k o → o ≡ None → ⊥
  no_long k None h e = h
  no_long k (Some f) h e = none-some f (sym e)

  no_file : (k : ℕ) (o : Option File) → HasFile o (λ f. length f.bytes ≡ k) → o ≡ None → ⊥
  no_file k None h e = h
  no_file k (Some f) h e = none-some f (sym e)

  module _ (history : History) (step : Step) (legal : Legal stamped (step ∷ history)) (apart : same_role step.act.who.role Job ≡ false)
      (before : gave_up x history ≡ false → IsGone history x → ⊥) (kept : gave_up x (step ∷ history) ≡ false)
      (gone : IsGone (step ∷ history) x) where
    kept_before : gave_up x history ≡ false
    kept_before = gave_early x (step ∷ []) history kept

    spared : 0 < length (wrote x history) → gives_up x step ≡ false
    spared some = go (nat_lt 0 (length (wrote x history))) (gives_up x step) (gave_up x history)
        (lt-ltb 0 (length (wrote x history)) some) kept
      where
        go : (a b c : Bool) → a ≡ true → ((a && b) || c) ≡ false → b ≡ false
        go true false c is e = refl
        go true true c is e = absurd (true≢false e)
        go false b c is e = absurd (true≢false (sym is))

    was_done : (o : Option File) → file (files_after history) (DoneFile x) ≡ o → Long (length (wrote x history)) o → ⊥
    was_done None e long = long
    was_done (Some f) e long =
        none-some f (sym gone.done ∙ (done_sinks_stay stamped history step legal x known).stays f e
        (λ r. true≢false (sym r.by ∙ apart)))

    -- something stood in it before
    stood : 0 < length (wrote x history) → ⊥
    stood some = elim (stands_whole stamped history legal.0 x known kept_before) [
      | inl none ↦ (let z : ⊥ = omega (arith, some, none) in z)
      | inr (inl long) ↦
          elim (step_keeps stamped history step legal x (known_stem x known) (spared some) (length (wrote x history)) long) [
            | inl there ↦ no_long (length (wrote x history)) (file step.files (SinkFile x)) there gone.sink
            | inr shut ↦ no_long (length (wrote x history)) (file step.files (DoneFile x)) shut gone.done
          ]
      | inr (inr (inl shut)) ↦ was_done (file (files_after history) (DoneFile x)) refl shut
      | inr (inr (inr was)) ↦ before kept_before was.1
    ]

    pub gone_never : ⊥
    gone_never = elim (cases_lt 0 (length (wrote x history))) [
      | inl some ↦ stood some
      | inr none ↦ elim (cases_lt 0 (length (written_by x (deed step.act) step.act.answer))) [
        | inl more ↦ no_file (length (wrote x (step ∷ history))) (file step.files (SinkFile x))
            (appended_there stamped history step legal x known more) gone.sink
        | inr nothing ↦
            let some = gone.wrote_some in
            let all = length-append (wrote x history) (written_by x (deed step.act) step.act.answer) in
            (let z : ⊥ = omega (arith, some, none, nothing, all) in z)
      ]
    ]

  -- ---- all of them

  pub gone_none : (added history : History) → Legal stamped (added ++ history) → Every IsNoJob added history
      → (gave_up x history ≡ false → IsGone history x → ⊥)
      → gave_up x (added ++ history) ≡ false → IsGone (added ++ history) x → ⊥
  gone_none [] history legal none before = before
  gone_none (step ∷ added) history legal none before =
      gone_never (added ++ history) step legal none.1 (gone_none added history legal.0 none.0 before)

pub none_gone_on : (stamped : List (List ℕ)) (started : List Who) → Contains started job → (s : Sinks) (n : List ℕ)
    (added history : History)
    → Others (OutsideOf stamped started) added history → Owns (IsByOne (pair s.collector n)) added history
    → (is_stopped history ≡ false → NoneGone s history) → Legal stamped (added ++ history)
    → is_stopped (added ++ history) ≡ false → NoneGone s (added ++ history)
none_gone_on stamped started j_in s n added history others own before legal running x known of_collector of_start =
    gone_none stamped x known added history legal (no_job stamped started j_in s.collector n added history others own)
    (before (ran_before (IsByOne (pair s.collector n)) (λ before step by. by.running) added history own running)
    x known of_collector of_start)

-- ---- behind the start

-- nothing is written yet to a sink of a start that has created none
pub fresh_none : (stamped : List (List ℕ)) (s : Sinks) (history : History) → Legal stamped history → Holds s history
    → s.number ≡ 0 → NoneGone s history
fresh_none stamped s history legal held none x known of_collector of_start kept gone =
    let same : collector x ≡ process s = ap (λ n. record { role = Collector; name = n }) of_collector in
    let born = ap (λ w. (view w history).born) same ∙ (held.born ∙ ap (λ b. Some b) (sym of_start)) in
    let made = ap (λ w. (view w history).made) same ∙ (held.made ∙ none) in
    let some = (stem_facts x known).number_from in
    let less : (view (collector x) history).made < x.number = omega (arith, made, some) in
    let nothing = (holds_always x (known_stem x known) stamped history legal).unwritten (inr (born, less)) in
    let wrote_some = gone.wrote_some in
    let empty = ap (λ (l : List ℕ). length l) nothing in
    (let z : ⊥ = omega (arith, wrote_some, empty) in z)
