-- An adaptor of a name is to end, or is past.
use Rattle.std.proofs.Common.{◌≡◌, ℕ, ◌≤◌, List, [], ◌∷◌, length, Option, Some, None, Ok, ap, sym}
use Rattle.std.proofs.Common.{subst, ◌∙◌, arith}
use Rattle.std.specs.Prelude.{slice_get, slice_set, slice_index}
use Rattle.chk_control.specs.declared.commands.Command.TheVariants.{Stop, Shutdown}
use Rattle.chk_control.specs.declared.answers.Answer.TheVariants.{Stopped, Stopping as stops_later}
use Rattle.chk_control.specs.declared.answers.Answer.TheVariants.{Bad}
use Rattle.chk_control.specs.Answers.{answer_text}
use Rattle.chk_rotate.specs.Marks.{BeginsBelow}
use Rattle.chk_acks.specs.Sound.{IsSound as IsSoundTable}
use Rattle.chk_agent_adaptor.specs.Adaptors.{Adaptor, shut_down, stopped}
use Rattle.chk_agent_delivery.specs.States.{State as Delivery}
use Rattle.chk_agent_delivery.specs.Sound.{IsSound as IsSoundDelivery}
use Rattle.chk_agent_delivery.specs.Turns.{without_adaptors}
use Rattle.chk_agent.specs.declared.answers.Then.TheVariants.{Go}
use Rattle.chk_agent.specs.States.{State, committed_at}
use Rattle.chk_agent.specs.Fits.{IsSound}
use Rattle.chk_agent.specs.Adds.{named_in}
use Rattle.chk_agent.specs.Commands.{plain_effect, stop_effect, shutdown_effect, ending, all_past}
use Rattle.chk_agent.specs.Commands.{live_from, stopped_state}
use Rattle.chk_agent.proofs.CommandingLists.{IsThere, named_there, past_one}
use Rattle.chk_agent.proofs.CommandingStates.{phases_sound, ending_rephased, stopped_sound}
use Rattle.chk_agent_delivery.proofs.Leaving.{length-last_back as last_size}

-- the one that was found
pub found_one : (name : List ℕ) (xs : List Adaptor) (o : Option ℕ) (i : ℕ) → o ≡ Some i
    → o ≡ named_in name 0 xs → IsThere xs i
found_one name xs o i is found =
    let r = named_there name 0 i xs (sym found ∙ is) in
    subst (IsThere xs) (let e = r.1 in let z : r.0 ≡ i = omega (arith, e) in z) r.2

module _ (s : State) (name : List ℕ) (o : Option ℕ) where
  pub none_to_end : o ≡ None → o ≡ named_in name 0 s.adaptors
      → plain_effect (Ok (Shutdown name)) s ≡ Some (record {
        text = answer_text
            (Bad 12);
        on = Go;
        next = s;
      })
  none_to_end is found = ap (λ k. shutdown_effect name k s) (sym found ∙ is)

  pub none_to_stop : o ≡ None → o ≡ named_in name 0 s.adaptors
      → plain_effect (Ok (Stop name)) s ≡ Some (record {
        text = answer_text
            (Bad 12);
        on = Go;
        next = s;
      })
  none_to_stop is found = ap (λ k. stop_effect name k s) (sym found ∙ is)

  pub one_to_stop : (i : ℕ) → o ≡ Some i → o ≡ named_in name 0 s.adaptors
      → plain_effect (Ok (Stop name)) s ≡ Some (record {
        text = answer_text
            (Stopped name);
        on = Go;
        next = stopped_state (i ∷ []) s;
      })
  one_to_stop i is found = ap (λ k. stop_effect name k s) (sym found ∙ is)

  pub one_to_end : (i : ℕ) (a : Adaptor) → o ≡ Some i → o ≡ named_in name 0 s.adaptors
      → slice_get s.adaptors i ≡ Some a
      → plain_effect (Ok (Shutdown name)) s
      ≡ Some (record {
        text = answer_text
            (stops_later name);
        on = Go;
        next = record s {
          adaptors = slice_set s.adaptors i
              (shut_down a);
        };
      })
  one_to_end i a is found at =
      ap (λ k. shutdown_effect name k s) (sym found ∙ is)
      ∙ ap (λ k. Some (record {
        text = answer_text
            (stops_later name);
        on = Go;
        next = ending i k s;
      })) at

end_sound : (s : State) → IsSound s → (i : ℕ) (a : Adaptor) → slice_get s.adaptors i ≡ Some a
    → IsSound (record s { adaptors = slice_set s.adaptors i (shut_down a) })
end_sound s sound i a at = phases_sound s sound (slice_set s.adaptors i (shut_down a))
    (ending_rephased s.adaptors i a at)

-- the state with other adaptors
abbrev pub with_adaptors : State → List Adaptor → State
with_adaptors s xs = record s { adaptors = xs }

-- the adaptors were lent, and given back with one that is to end
pub end_is : (s : State) (i : ℕ) (a : Adaptor) (ys xs : List Adaptor)
    → slice_get s.adaptors i ≡ Some a → ys ≡ s.adaptors
    → ((b : Adaptor) → slice_get ys i ≡ Some b → xs ≡ slice_set ys i (shut_down b))
    → xs ≡ slice_set s.adaptors i (shut_down a)
end_is s i a ys xs at lent new =
    new a (ap (λ zs. slice_get zs i) lent ∙ at) ∙ ap (λ zs. slice_set zs i (shut_down a)) lent

pub end_sound_as : (s : State) → IsSound s → (i : ℕ) (a : Adaptor) (ys xs : List Adaptor)
    → slice_get s.adaptors i ≡ Some a
    → ys ≡ s.adaptors → ((b : Adaptor) → slice_get ys i ≡ Some b
    → xs ≡ slice_set ys i (shut_down b)) → IsSound (with_adaptors s xs)
end_sound_as s sound i a ys xs at lent new =
    subst (λ zs. IsSound (with_adaptors s zs)) (sym (end_is s i a ys xs at lent new))
    (end_sound s sound i a at)

-- ---- what waits of some is dropped

module _ (s : State) (sound : IsSound s) (gone : List ℕ) (d : Delivery)
    (dropped : d ≡ without_adaptors gone s.delivery) where
  pub same_end : (i : ℕ) → slice_index d.table.committed i ≡ committed_at s i
  same_end i = ap (λ (k : Delivery). slice_index k.table.committed i) dropped

  pub all_known : length s.adaptors ≤ length d.table.committed
  all_known =
      let same : length d.table.committed ≡ length s.delivery.table.committed = ap (λ
      (k : Delivery). length k.table.committed) dropped in
      let few = sound.few in
      let known = sound.known in omega (arith, same, few, known)

  pub stop_from : (i o : ℕ) (a : Adaptor) → o ≡ slice_index d.table.committed i
      → slice_get s.adaptors i ≡ Some a → BeginsBelow o a.marks
  stop_from i o a is at = subst (λ k. BeginsBelow k a.marks) (sym (is
      ∙ same_end i)) (sound.each i a at).place.from

  pub stop_to : (i o : ℕ) (a : Adaptor) → o ≡ slice_index d.table.committed i
      → slice_get s.adaptors i ≡ Some a → o ≤ a.read.offset
  stop_to i o a is at = subst (λ k. k ≤ a.read.offset) (sym (is
      ∙ same_end i)) (sound.each i a at).place.to

  pub stopped_is : (xs : List Adaptor) → xs ≡ all_past gone s.delivery.table.committed 0 s.adaptors
      → record s { adaptors = xs; delivery = d } ≡ stopped_state gone s
  stopped_is xs past = λ i. record s { adaptors = past i; delivery = dropped i }

  pub stop_sound : (xs : List Adaptor)
      → xs ≡ all_past gone s.delivery.table.committed 0 s.adaptors → IsSoundDelivery d
      → IsSoundTable d.table
      → IsSound (record s { adaptors = xs; delivery = d })
  stop_sound xs past left table =
      let many : length (without_adaptors gone s.delivery).table.last ≡ length
      s.delivery.table.committed =
      subst (λ (k : Delivery). length k.table.last ≡ length k.table.committed) dropped
      table.as_many in
      subst IsSound (sym (stopped_is xs past))
      (stopped_sound s sound gone (sym
      (last_size gone s.delivery.table.committed 0 s.delivery.table.last) ∙ many)
      (subst IsSoundDelivery dropped left))

  -- one alone
  pub one_stopped : (i o : ℕ) (a : Adaptor) (xs ys : List Adaptor) → gone ≡ i ∷ []
      → o ≡ slice_index d.table.committed i
      → slice_get s.adaptors i ≡ Some a → ys ≡ s.adaptors → xs ≡ slice_set ys i (stopped o a)
      → xs ≡ all_past gone s.delivery.table.committed 0 s.adaptors
  one_stopped i o a xs ys alone is at lent new =
      new
      ∙ (ap (λ zs. slice_set zs i (stopped o a)) lent
      ∙ (ap (λ k. slice_set s.adaptors i (stopped k a)) (is ∙ same_end i)
      ∙ (past_one i s.delivery.table.committed 0 i s.adaptors a at (omega arith)
      ∙ ap (λ g. all_past g s.delivery.table.committed 0 s.adaptors) (sym alone))))

-- all of them
pub all_stopped : (gone : List ℕ) (e d : Delivery) (xs ys zs : List Adaptor)
    → gone ≡ live_from 0 zs → d ≡ without_adaptors gone e
    → ys ≡ zs → xs ≡ all_past (live_from 0 ys) d.table.committed 0 ys
    → xs ≡ all_past gone e.table.committed 0 zs
all_stopped gone e d xs ys zs live dropped lent new =
    new
    ∙ (ap (λ qs. all_past (live_from 0 qs) d.table.committed 0 qs) lent
    ∙ (ap (λ g. all_past g d.table.committed 0 zs) (sym live)
    ∙ ap (λ (k : Delivery). all_past gone k.table.committed 0 zs) dropped))
