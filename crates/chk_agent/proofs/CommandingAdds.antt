-- A control line that adds, exit by exit.
use Rattle.std.proofs.Common.{◌≡◌, ℕ, suc, ◌+◌, ◌≤◌, ◌<◌, Bool, true, false, ◌&&◌, ◌==◌, not, List}
use Rattle.std.proofs.Common.{[], ◌∷◌, length, Option, Some, None, Result, Ok, Err, ap, sym, subst}
use Rattle.std.proofs.Common.{◌∙◌, refl, arith, bytes_eq, eq-eqb, if◌then◌else◌}
use Rattle.std.specs.Prelude.{slice_get, slice_index_or, option_map, is_some}
use Rattle.std.proofs.lemmas.Option.{same_Some, none-some, slice_get-get_or}
use Rattle.chk_site.specs.History.{History}
use Rattle.chk_control.specs.declared.Class.{Class}
use Rattle.chk_control.specs.declared.commands.Command.TheVariants.{Add}
use Rattle.chk_control.specs.declared.answers.Answer.TheVariants.{Added, Bad}
use Rattle.chk_control.specs.Answers.{answer_text}
use Rattle.chk_control.specs.Lines.{meaning_of}
use Rattle.chk_agent_adaptor.specs.Adaptors.{Adaptor, is_past}
use Rattle.chk_agent.specs.declared.answers.AgentFault.{AgentFault}
use Rattle.chk_agent.specs.declared.answers.Reply.{Reply}
use Rattle.chk_agent.specs.declared.answers.Then.TheVariants.{Go}
use Rattle.chk_agent.specs.Replies.{reply_of}
use Rattle.chk_agent.specs.States.{State}
use Rattle.chk_agent.specs.Adds.{Found, named_in, stream_in, IsNameFor, MayTake, TakesStream}
use Rattle.chk_agent.specs.Commands.{add_refusal, IsAnswered, IsCommand, refused_add, added}
use Rattle.chk_agent.specs.Commands.{wanting}

-- the stream's adaptor is there
pub record IsAt (xs : List Adaptor) (f : Found) (j : ℕ) : Type 0 where
  pub at : slice_get xs j ≡ Some f.adaptor
  pub below : j < length xs

stream_there : (kind path : List ℕ) (i : ℕ) (xs : List Adaptor) (f : Found)
    → stream_in kind path i xs ≡ Some f
    → (j : ℕ) × (f.number ≡ i + j) × IsAt xs f j
stream_there kind path i [] f e = absurd (none-some f e)
stream_there kind path i (a ∷ xs) f e = go (bytes_eq a.kind kind && bytes_eq a.path path) e
    (stream_there kind path (i + 1) xs f)
  where
    go : (b : Bool) → (if b then Some
        (record { number = i; adaptor = a }) else stream_in kind path (i + 1) xs) ≡ Some f
        → (stream_in kind path (i + 1) xs ≡ Some f
        → (j : ℕ) × (f.number ≡ (i + 1) + j) × IsAt xs f j)
        → (j : ℕ) × (f.number ≡ i + j) × IsAt (a ∷ xs) f j
    go true e rest =
        let same : record { number = i; adaptor = a } ≡ f = same_Some
        (record { number = i; adaptor = a }) f e in
        let number : i ≡ f.number = ap (λ (k : Found). k.number) same in (
          0,
          omega (arith, number),
          record {
            at = ap (λ
                (k : Found). Some k.adaptor) same;
            below = omega arith;
          },
        )
    go false e rest =
        let r = rest e in
        let is = r.1 in
        let below = r.2.below in (
          suc r.0,
          omega (arith, is),
          record {
            at = r.2.at;
            below = omega
                (arith, below);
          },
        )

-- by its number
pub record IsFoundAt (xs : List Adaptor) (o : Option Found) (place : ℕ) : Type 0 where
  pub found : Found
  pub is : o ≡ Some found
  pub there : IsAt xs found place

pub found_at : (kind path : List ℕ) (xs : List Adaptor) (number : Option ℕ) (place : ℕ)
    → number ≡ Some place
    → number ≡ option_map (λ (f : Found). f.number) (stream_in kind path 0 xs)
    → IsFoundAt xs (stream_in kind path 0 xs) place
found_at kind path xs number place is same = go (stream_in kind path 0 xs) refl (sym same ∙ is)
  where
    go : (o : Option Found) → stream_in kind path 0 xs ≡ o
        → option_map (λ (f : Found). f.number) o ≡ Some place
        → IsFoundAt xs (stream_in kind path 0 xs) place
    go None e number = absurd (none-some place number)
    go (Some f) e number =
        let r = stream_there kind path 0 xs f e in
        let at = r.1 in
        let here = same_Some f.number place number in
        record {
          found = f;
          is = e;
          there = subst (IsAt xs f) (let z : r.0 ≡ place = omega
              (arith, at, here) in z) r.2;
        }

-- the refusal is that of the adaptor that was found
pub refused_by : (named : Option ℕ) (xs : List Adaptor) (o : Option Found) (place : ℕ)
    (d : Adaptor) (class : Class) (offset : ℕ)
    (result : Option ℕ) → named ≡ None → IsFoundAt xs o place
    → ((i count : ℕ) → result ≡ add_refusal None (Some
    (record { number = i; adaptor = slice_index_or xs place d })) count class offset)
    → result ≡ add_refusal named o (length xs) class offset
refused_by named xs o place d class offset result unnamed f by =
    let same : slice_index_or xs place d ≡ f.found.adaptor =
    same_Some (slice_index_or xs place d) f.found.adaptor (sym
    (slice_get-get_or xs place d f.there.below) ∙ f.there.at) in
    by f.found.number (length xs)
    ∙ (ap (λ (a : Adaptor). add_refusal None (Some
    (record { number = f.found.number; adaptor = a })) (length xs) class offset) same
    ∙ (ap (λ k. add_refusal None k (length xs) class offset) (sym f.is)
    ∙ ap (λ k. add_refusal k o (length xs) class offset) (sym unnamed)))

pub refused_there : (named : Option ℕ) (xs : List Adaptor) (o : Option Found) (place : ℕ)
    (f : Found)
    (class : Class) (offset : ℕ) (result : Option ℕ) → named ≡ None → o ≡ Some f
    → ((i count : ℕ) → result ≡ add_refusal None (Some
    (record { number = i; adaptor = f.adaptor })) count class offset)
    → result ≡ add_refusal named o (length xs) class offset
refused_there named xs o place f class offset result unnamed is by =
    by f.number (length xs)
    ∙ (ap (λ k. add_refusal None k (length xs) class offset) (sym is)
    ∙ ap (λ k. add_refusal k o (length xs) class offset) (sym unnamed))

pub none_named : (o : Option ℕ) → false ≡ is_some o → o ≡ None
none_named None e = refl
none_named (Some i) e = absurd (let z : ⊥ = cc in z)

-- who isn't refused may be taken
pub may_take : (named : Option ℕ) (found : Option Found) (count : ℕ) (class : Class) (offset : ℕ)
    → add_refusal named found count class offset ≡ None → count ≤ 10000 → MayTake found count
may_take (Some i) found count class offset e few = absurd (let z : ⊥ = cc in z)
may_take None None count class offset e few = go (count == 10000) _ refl e
  where
    go : (b : Bool) (x : ℕ) → (count == 10000) ≡ b → (if b then Some x else None) ≡ None
        → count < 10000
    go true x is e = absurd (let z : ⊥ = cc in z)
    go false x is e = let other : count ≡ 10000
        → ⊥ = λ same. (let t = eq-eqb count 10000 same in let z : ⊥ = cc in z) in omega
        (arith, few, other)
may_take None (Some f) count class offset e few = go (is_past f.adaptor.phase) _ _ e
  where
    go : (b : Bool) (x : ℕ) (rest : Option ℕ) → (if not b then Some x else rest) ≡ None → b ≡ true
    go true x rest e = refl
    go false x rest e = absurd (let z : ⊥ = cc in z)

module _ (line : List ℕ) (s : State) (given : Option (List ℕ)) (class : Class)
    (kind path name : List ℕ) (offset : ℕ)
    (means : meaning_of line ≡ Ok (Add given class kind path offset)) where
  pub refused_line : (n : ℕ) (result : Result Reply AgentFault) (now : Option History)
      → IsNameFor s given name
      → add_refusal (named_in name 0 s.adaptors) (stream_in kind path 0 s.adaptors)
      (length s.adaptors) class offset ≡ Some n
      → IsAnswered (answer_text (Bad n)) Go result → IsCommand line s result s now now
  refused_line n (Ok reply) now named refusal answered =
      subst (λ r. IsCommand line s (Ok r) s now now) (sym answered)
      (refused_add given class kind path name offset n means named refusal)
  refused_line n (Err fault) now named refusal answered = subst (λ f. IsCommand line s
      (Err f) s now now) (sym answered) wanting

  pub added_line : (copy : List ℕ) (reply : Reply) (t : State) (old new : Option History)
      → IsNameFor s given name
      → add_refusal (named_in name 0 s.adaptors) (stream_in kind path 0 s.adaptors)
      (length s.adaptors) class offset ≡ None
      → copy ≡ name → reply ≡ reply_of (answer_text (Added copy)) Go
      → TakesStream s name class kind path offset (stream_in kind path 0 s.adaptors)
      (Ok tt) t old new → IsCommand line s (Ok reply) t old new
  added_line copy reply t old new named refusal copied answered taken =
      subst (λ r. IsCommand line s (Ok r) t old new) (sym (answered
      ∙ ap (λ n. reply_of (answer_text (Added n)) Go) copied))
      (added given class kind path name offset means named refusal taken)
