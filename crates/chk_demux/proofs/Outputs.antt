-- A record is written, and counted.
use Rattle.std.proofs.Common.{◌≡◌, refl, inl, inr, None, ℕ, ◌+◌, ◌-◌, ◌^◌, Bool, true, false, true≢false, nat_eq, List, [], ◌∷◌, ◌++◌, length, Option, Some, Ok, Err, Result, ap, sym, subst, ◌∙◌, arith, length-append}
use Rattle.std.specs.Prelude.{OnOk, IfErr}
use Rattle.std.proofs.lemmas.List.Sums.{sum_by-append}
use Rattle.chk_site.specs.History.{History, Every, is_stopped}
use Rattle.chk_site.specs.Site.{Adds}
use Rattle.chk_site.specs.Runs.{Leads}
use Rattle.chk_site.proofs.Leads.{leads_none, leads_as, leads_then}
use Rattle.chk_chunk.specs.Keys.{Chunk}
use Rattle.chk_world.specs.Places.{As}
use Rattle.chk_world.specs.Sight.{job, Sight, sight, AtJob}
use Rattle.chk_world.specs.JobSteps.{IsOf, WritesTo}
use Rattle.chk_world.proofs.NameTests.{nat_same, nat_self}
use Rattle.chk_record_index.specs.declared.fault.JobFault.{JobFault}
use Rattle.chk_record_index.specs.declared.fault.JobFault.TheVariants.{NoMemory}
use Rattle.chk_book.specs.declared.segmenter.Segmenter.{Segmenter}
use Rattle.chk_archive_parts.proofs.FromKnown.{with_fact}
use Rattle.chk_archive_parts.proofs.OneSegment.{quiet_write}
use Rattle.chk_world.proofs.Lifts.{no_write_starts}
use Rattle.chk_demux.specs.Working.{EndsSo, Worked}
use Rattle.chk_demux.specs.Writes.{IsFree, IsSoFar, SoFar, PutSoFar, IsOutput, IsForDemux, IsWriter, HasSome, bytes_of}
use Rattle.chk_demux.specs.declared.output.Output.{Output}
use Rattle.chk_demux.proofs.Ends.{at_as, so_fails, so_done}
use Rattle.chk_archive_parts.proofs.Works.{works_memory, works_value, works_end}
use Rattle.chk_book.proofs.Works.{works_none}

-- what less is asked before
pub before_as : (stamped : List (List ℕ)) (P Q : Sight → Type 0) (C : History → Type 0) → ((u : Sight) → P u → Q u)
    → {old new : Option History} → Adds old new (Leads (As stamped job) (AtJob stamped Q) C)
    → Adds old new (Leads (As stamped job) (AtJob stamped P) C)
before_as stamped P Q C less told = leads_as (λ h k. at_as stamped P Q less h k) (λ h k. k) told

one_more : (outs : List Chunk) (c : Chunk) → bytes_of (outs ++ c ∷ []) ≡ bytes_of outs + length c.value
one_more outs c =
    sum_by-append (λ (d : Chunk). length d.value) outs (c ∷ [])
    ∙ ap (λ n. bytes_of outs + n) (let z : 0 + length c.value ≡ length c.value = omega arith in z)

-- where the number isn't the last one, what is put is written
pub is_written : (v : Sight) (outs : List Chunk) (k : ℕ) → IsFree v k → (k ≡ 2 ^ 63 - 1 → ⊥) → (o : Option Segmenter) (u : Sight)
    → PutSoFar v outs o u → SoFar v outs o u
is_written v outs k free below None u (inl none, same) = (none, same)
is_written v outs k free below None u (inr last, same) = absurd (below (sym free.next ∙ last))
is_written v outs k free below (Some s) u p = p

pub not_spent : (n : ℕ) (b : Bool) → b ≡ nat_eq n (2 ^ 63 - 1) → b ≡ false → n ≡ 2 ^ 63 - 1 → ⊥
not_spent n b is none last =
    true≢false (sym (subst (λ m. nat_eq n m ≡ true) last (nat_self n)) ∙ (sym is ∙ none))

pub spent_at : (n : ℕ) (b : Bool) → b ≡ nat_eq n (2 ^ 63 - 1) → b ≡ true → n ≡ 2 ^ 63 - 1
spent_at n b is so = nat_same n (2 ^ 63 - 1) (sym is ∙ so)

-- where it is, there is no segment
pub none_at_last : (k : ℕ) → k ≡ 2 ^ 63 - 1 → (o : Option Segmenter) → IsWriter k o → o ≡ None
none_at_last k last None w = refl
none_at_last k last (Some s) w = absurd (w.below last)

module _ (stamped : List (List ℕ)) (v : Sight) (outs : List Chunk) (o : Output)
    (written : (u : Sight) → PutSoFar v outs o.segmenter u → SoFar v outs o.segmenter u)
    (r : Result Segmenter JobFault) {old mid : Option History}
    (first : Adds old mid (Leads (As stamped job) (AtJob stamped (SoFar v outs o.segmenter))
    (EndsSo stamped (λ s u. IsSoFar v outs s u) r))) where
  module _ (s t : Segmenter) (is : r ≡ Ok s) (c : Chunk) (q : Result (Unit {0}) JobFault)
      {new : Option History}
      (second : Adds mid new (Leads (As stamped job) (AtJob stamped (IsSoFar v outs s))
      (EndsSo stamped (λ value u. IsSoFar v (outs ++ c ∷ []) t u) q))) where
    both : Adds old new (Leads (As stamped job) (AtJob stamped (SoFar v outs o.segmenter))
        (EndsSo stamped (λ value u. IsSoFar v (outs ++ c ∷ []) t u) q))
    both = leads_then (so_done stamped (AtJob stamped (SoFar v outs o.segmenter)) (λ s u. IsSoFar v outs s u) r s is first) second

    -- it couldn't be written
    pub not_put : {U : Type 0} (Q : U → Sight → Type 0) (fault : JobFault) → q ≡ Err fault
        → Adds old new (Leads (As stamped job) (AtJob stamped (IsOutput v outs o)) (EndsSo stamped Q (Err fault)))
    not_put Q fault e =
        before_as stamped (IsOutput v outs o) (SoFar v outs o.segmenter) (EndsSo stamped Q (Err fault))
        (λ u p. written u p.so_far)
        (so_fails stamped (AtJob stamped (SoFar v outs o.segmenter)) (λ value u. IsSoFar v (outs ++ c ∷ []) t u) Q q fault e both)

    -- it was
    pub put_done : (value : Unit {0}) → q ≡ Ok value
        → Adds old new (Leads (As stamped job) (AtJob stamped (SoFar v outs o.segmenter)) (AtJob stamped (IsSoFar v (outs ++ c ∷ []) t)))
    put_done value done =
        so_done stamped (AtJob stamped (SoFar v outs o.segmenter)) (λ value u. IsSoFar v (outs ++ c ∷ []) t u) q value done both

module _ (stamped : List (List ℕ)) (v : Sight) (outs : List Chunk) (o : Output) (c : Chunk)
    (written : (u : Sight) → PutSoFar v outs o.segmenter u → SoFar v outs o.segmenter u) {old new : Option History} where
  -- the first one couldn't be written
  pub not_first : (r : Result Segmenter JobFault)
      → Adds old new (Leads (As stamped job) (AtJob stamped (SoFar v outs o.segmenter))
      (EndsSo stamped (λ s u. IsSoFar v (outs ++ c ∷ []) s u) r))
      → {U : Type 0} (Q : U → Sight → Type 0) (fault : JobFault) → r ≡ Err fault
      → Adds old new (Leads (As stamped job) (AtJob stamped (IsOutput v outs o)) (EndsSo stamped Q (Err fault)))
  not_first r told Q fault e =
      before_as stamped (IsOutput v outs o) (SoFar v outs o.segmenter) (EndsSo stamped Q (Err fault))
      (λ u p. written u p.so_far)
      (so_fails stamped (AtJob stamped (SoFar v outs o.segmenter)) (λ s u. IsSoFar v (outs ++ c ∷ []) s u) Q r fault e told)

  -- a record is written, and counted
  module _ (t : Segmenter)
      (done : Adds old new (Leads (As stamped job) (AtJob stamped (SoFar v outs o.segmenter)) (AtJob stamped (IsSoFar v (outs ++ c ∷ []) t))))
      (w : List ℕ) (own : Adds old new (Every (IsOf (WritesTo w)))) (n : Output) (z : Result (Unit {0}) JobFault)
      (taken : OnOk z (n.taken ≡ o.taken + length c.value)) (entries : OnOk z (n.entries ≡ o.entries + 1))
      (segmenter : n.segmenter ≡ Some t) (only : IfErr z (λ fault. fault ≡ NoMemory)) where
    ended : (z : Result (Unit {0}) JobFault) → OnOk z (n.taken ≡ o.taken + length c.value)
        → OnOk z (n.entries ≡ o.entries + 1) → IfErr z (λ fault. fault ≡ NoMemory) → (h : History)
        → AtJob stamped (IsSoFar v (outs ++ c ∷ []) t) h → (is_stopped h ≡ false → (o.taken ≡ bytes_of outs) × (o.entries ≡ length outs))
        → EndsSo stamped (λ value u. IsOutput v (outs ++ c ∷ []) n u) z h
    ended (Ok value) taken entries only h k counted = record {
      legal = k.legal;
      may_act = k.may_act;
      alive = λ runs.
          let before = counted runs in
          let size = length-append outs (c ∷ []) in
          let count = before.1 in
          record {
            taken = taken ∙ (ap (λ m. m + length c.value) before.0 ∙ sym (one_more outs c));
            entries = omega (arith, entries, count, size);
            so_far = subst (λ s. PutSoFar v (outs ++ c ∷ []) s (sight h)) (sym segmenter) (k.alive runs);
            some = subst (λ s. HasSome s (outs ++ c ∷ [])) (sym segmenter) (omega (arith, size));
          };
    }
    ended (Err fault) taken entries only h k counted =
        subst (λ f. EndsSo stamped (λ (value : Unit {0}) u. IsOutput v (outs ++ c ∷ []) n u) (Err f) h) (sym only) k.legal

    pub put_counted : Adds old new (Leads (As stamped job) (AtJob stamped (IsOutput v outs o))
        (EndsSo stamped (λ value u. IsOutput v (outs ++ c ∷ []) n u) z))
    put_counted =
        leads_as
        (λ h k. at_as stamped (IsOutput v outs o)
        (λ u. SoFar v outs o.segmenter u × ((o.taken ≡ bytes_of outs) × (o.entries ≡ length outs)))
        (λ u p. (written u p.so_far, (p.taken, p.entries))) h k)
        (λ h x. ended z taken entries only h x.0 x.1)
        (with_fact stamped (WritesTo w) (no_write_starts w) (quiet_write w)
        ((o.taken ≡ bytes_of outs) × (o.entries ≡ length outs)) (SoFar v outs o.segmenter)
        (AtJob stamped (IsSoFar v (outs ++ c ∷ []) t)) own done)

-- where no number is left the record is counted alone
module _ (stamped : List (List ℕ)) (v : Sight) (outs : List Chunk) (o : Output) (c : Chunk) (k : ℕ) (free : IsFree v k)
    (last : k ≡ 2 ^ 63 - 1) (writer : IsWriter k o.segmenter) (n : Output) (segmenter : n.segmenter ≡ o.segmenter) where
  alone : (z : Result (Unit {0}) JobFault) → OnOk z (n.taken ≡ o.taken + length c.value) → OnOk z (n.entries ≡ o.entries + 1)
      → IfErr z (λ fault. fault ≡ NoMemory) → (h : History) → AtJob stamped (IsOutput v outs o) h
      → EndsSo stamped (λ value u. IsOutput v (outs ++ c ∷ []) n u) z h
  alone (Ok value) taken entries only h j = record {
    legal = j.legal;
    may_act = j.may_act;
    alive = λ runs.
        let p = j.alive runs in
        let none : o.segmenter ≡ None = none_at_last k last o.segmenter writer in
        let gone : None ≡ n.segmenter = sym none ∙ sym segmenter in
        let size = length-append outs (c ∷ []) in
        let count = p.entries in
        record {
          taken = taken ∙ (ap (λ m. m + length c.value) p.taken ∙ sym (one_more outs c));
          entries = omega (arith, entries, count, size);
          so_far = subst (λ s. PutSoFar v (outs ++ c ∷ []) s (sight h)) gone
              (inr (free.next ∙ last), (subst (λ s. PutSoFar v outs s (sight h)) none p.so_far).1);
          some = subst (λ s. HasSome s (outs ++ c ∷ [])) gone tt;
        };
  }
  alone (Err fault) taken entries only h j =
      subst (λ f. EndsSo stamped (λ (value : Unit {0}) u. IsOutput v (outs ++ c ∷ []) n u) (Err f) h) (sym only) j.legal

  pub counted_alone : (z : Result (Unit {0}) JobFault) → OnOk z (n.taken ≡ o.taken + length c.value)
      → OnOk z (n.entries ≡ o.entries + 1) → IfErr z (λ fault. fault ≡ NoMemory) → (now : Option History)
      → Adds now now (Leads (As stamped job) (AtJob stamped (IsOutput v outs o))
      (EndsSo stamped (λ value u. IsOutput v (outs ++ c ∷ []) n u) z))
  counted_alone z taken entries only now = leads_none now (λ h j. alone z taken entries only h j)

-- and no call is made
pub alone_works : (w : List ℕ) (z : Result (Unit {0}) JobFault) → IfErr z (λ fault. fault ≡ NoMemory) → (now : Option History)
    → Adds now now (Worked (WritesTo w) z)
alone_works w (Ok value) only now = works_none (WritesTo w) value now
alone_works w (Err fault) only now =
    subst (λ f. Adds now now (Worked {T = Unit {0}} (WritesTo w) (Err f))) (sym only) (works_memory (Unit {0}) (WritesTo w) now)

-- the segment is the job's still
pub still_writer : (next : ℕ) (t : Segmenter) (q : Result (Unit {0}) JobFault)
    → OnOk q (IsForDemux next t) → (value : Unit {0}) → q ≡ Ok value → IsForDemux next t
still_writer next t q still value done = subst (λ q. OnOk q (IsForDemux next t)) done still

pub counted_writer : (next : ℕ) (t : Segmenter) (n : Output) (z : Result (Unit {0}) JobFault) → IsForDemux next t
    → n.segmenter ≡ Some t → OnOk z (IsWriter next n.segmenter)
counted_writer next t n z still segmenter = go z
  where
    writer : IsWriter next n.segmenter
    writer = subst (IsWriter next) (sym segmenter) still

    go : (z : Result (Unit {0}) JobFault) → OnOk z (IsWriter next n.segmenter)
    go (Ok value) = writer
    go (Err fault) = tt

-- and its calls are those of the writing
pub counted_works : {U : Type 0} (w : List ℕ) (z : Result (Unit {0}) JobFault) → IfErr z (λ fault. fault ≡ NoMemory)
    → (q : Result U JobFault) (value : U) → q ≡ Ok value → {old new : Option History}
    → Adds old new (Worked (WritesTo w) q) → Adds old new (Worked (WritesTo w) z)
counted_works {U} w z only q value done {old} {new} told = go z only
  where
    so : Adds old new (Worked {T = U} (WritesTo w) (Ok value))
    so = subst (λ q. Adds old new (Worked (WritesTo w) q)) done told

    go : (z : Result (Unit {0}) JobFault) → IfErr z (λ fault. fault ≡ NoMemory) → Adds old new (Worked (WritesTo w) z)
    go (Ok other) only = works_value U (Unit {0}) (WritesTo w) value other so
    go (Err fault) only =
        subst (λ f. Adds old new (Worked {T = Unit {0}} (WritesTo w) (Err f))) (sym only) (works_end U (Unit {0}) (WritesTo w) value so)
