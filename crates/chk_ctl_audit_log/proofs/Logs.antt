-- What was read of a log, step by step.
use Rattle.std.proofs.Common.{◌≡◌, ◌∙◌, ℕ, ◌+◌, ◌<◌, ◌≤◌, Bool, List, []}
use Rattle.std.proofs.Common.{◌∷◌, ◌++◌, length, take, drop, get_or, Option, Result, Ok, Err, refl}
use Rattle.std.proofs.Common.{sym, ap, ap₂, subst, arith, length-append, append_assoc}
use Rattle.std.proofs.Math.Seq.{take-add}
use Rattle.std.proofs.lemmas.List.{append-nil, drop_all, length-drop, take_more}
use Rattle.std.proofs.lemmas.List.{take-append-drop, take-take}
use Rattle.chk_site.specs.declared.acts.OutsideFault.{OutsideFault}
use Rattle.chk_site.specs.declared.acts.Who.{Who}
use Rattle.chk_site.specs.History.{History, Every}
use Rattle.chk_site.specs.Site.{Adds}
use Rattle.chk_tail.specs.declared.step.Step.{Step}
use Rattle.chk_tail.specs.declared.step.Step.TheVariants.{AtEnd, Bytes, Shrank}
use Rattle.chk_rotate.specs.Readers.{Reader, Stepped}
use Rattle.chk_ctl_audit_log.specs.Placing.{ReadsLogOf}
use Rattle.chk_ctl_audit_log.specs.Summing.{IsOver}
use Rattle.chk_world.specs.JobSteps.{IsOf}
use Rattle.chk_ctl_audit_log.proofs.Gave.{stepped_on}
use Rattle.chk_ctl_audit_log.specs.declared.ahead.Ahead.{Ahead}
use Rattle.chk_ctl_audit_log.specs.declared.ahead.Next.{Next}
use Rattle.chk_ctl_audit_log.specs.declared.ahead.Next.TheVariants.{Same, Differs, Ends}
use Rattle.chk_ctl_audit_log.specs.Ahead.{left_of, more, place_of, EndsThere, Filled, LogAt, Passed}
use Rattle.chk_ctl_audit_log.specs.Ahead.{ReadsOn, Takes}
use Rattle.chk_ctl_audit_log.specs.Meeting.{DiffersAt, EndsAt, IsNext, NextMet}

-- a step keeps the path
pub stepped_path : (who : Who) (old new : Reader) (result : Result Step OutsideFault)
    {before after : Option History} → Stepped who old result new before after
    → new.path ≡ old.path
stepped_path who old new (Ok step) s = ap (λ (r : Reader). r.path) s.is
stepped_path who old new (Err fault) s = ap (λ (r : Reader). r.path) s.is

-- the offset of the next byte
pub place_so : (who : Who) (from : Reader) (passed : List ℕ) (l : Ahead)
    {before now : Option History} → LogAt who from passed l before now
    → place_of l ≡ from.read.offset + length passed
place_so who from passed l at =
    let size : length at.text ≡ length passed + length (left_of l) =
    ap length at.is ∙ length-append passed (left_of l) in
    let place = at.place in
    omega (arith, size, place)

-- what is left where not all is used, and where all is
pub some_left : (l : Ahead) → l.used < length l.bytes → 0 < length (left_of l)
some_left l low = let size = length-drop l.used l.bytes in omega (arith, size, low)

pub none_left : (l : Ahead) → length l.bytes ≤ l.used → left_of l ≡ []
none_left l past = drop_all l.used l.bytes past

-- where all is used the text is what is passed
text_so : (who : Who) (from : Reader) (passed : List ℕ) (l : Ahead) {before now : Option History}
    (at : LogAt who from passed l before now) → left_of l ≡ [] → at.text ≡ passed
text_so who from passed l at none = at.is ∙ (ap (λ r. passed ++ r) none ∙ append-nil passed)

-- one more piece
pub more_read : (who : Who) (from : Reader) (passed : List ℕ) (l m : Ahead) (bytes : List ℕ)
    (end : ℕ) {before mid now : Option History} → LogAt who from passed l before mid
    → length l.bytes ≤ l.used → Stepped who l.reader (Ok (Bytes bytes end)) m.reader mid now
    → m.bytes ≡ bytes → m.used ≡ 0
    → LogAt who from passed m before now × (0 < length (left_of m))
more_read who from passed l m bytes end at past step is used =
    let s = stepped_on who l.reader m.reader bytes end at.plain step in
    let left : left_of m ≡ bytes = ap (λ (n : ℕ). drop n m.bytes) used ∙ is in
    let none = none_left l past in
    let text = text_so who from passed l at none in
    let size = length-append at.text bytes in
    let place = at.place in
    let further = s.0.0 in (
      record {
        text = at.text ++ bytes;
        reads = more at.reads step;
        is = ap (λ (t : List ℕ). t ++ bytes) text ∙ ap (λ (b : List ℕ). passed ++ b) (sym left);
        plain = s.1;
        place = omega (arith, size, place, further);
      },
      subst (λ (b : List ℕ). 0 < length b) (sym left) s.0.1,
    )

-- nothing more is read
pub read_out : (who : Who) (from : Reader) (passed : List ℕ) (l : Ahead) (step : Step)
    (next : Reader) {before mid now : Option History} → LogAt who from passed l before mid
    → length l.bytes ≤ l.used → IsOver step → Stepped who l.reader (Ok step) next mid now
    → EndsThere who from passed before now
read_out who from passed l step next {before = before} {mid = mid} at past over stepped = record {
  middle = mid;
  reader = l.reader;
  next = next;
  reads = subst (λ (t : List ℕ). ReadsOn who from t l.reader before mid)
      (text_so who from passed l at (none_left l past)) at.reads;
  step = step;
  over = over;
  stepped = stepped;
}

-- a step's piece is taken, or it had none
pub filled : (who : Who) (from : Reader) (passed : List ℕ) (l m n : Ahead) (step : Step)
    (some : Bool) {before mid now : Option History} → LogAt who from passed l before mid
    → length l.bytes ≤ l.used → Stepped who l.reader (Ok step) m.reader mid now
    → Takes step m n some → Filled who from passed n before (Ok some) now
filled who from passed l m n (Bytes bytes end) some {before = before} {mid = mid} {now = now} at
    past stepped t =
    subst (λ (b : Bool). Filled who from passed n before (Ok b) now) (sym t.0)
    (more_read who from passed l n bytes end at past
    (subst (λ (r : Reader). Stepped who l.reader (Ok (Bytes bytes end)) r mid now) (sym t.1) stepped)
    t.2 t.3)
filled who from passed l m n AtEnd some {before = before} {now = now} at past stepped t =
    subst (λ (b : Bool). Filled who from passed n before (Ok b) now) (sym t.0)
    (read_out who from passed l AtEnd m.reader at past tt stepped)
filled who from passed l m n (Shrank had is) some {before = before} {now = now} at past stepped t =
    subst (λ (b : Bool). Filled who from passed n before (Ok b) now) (sym t.0)
    (read_out who from passed l (Shrank had is) m.reader at past tt stepped)

-- taking leaves the reader
pub takes_path : (m n : Ahead) (step : Step) (some : Bool) → Takes step m n some
    → n.reader.path ≡ m.reader.path
takes_path m n (Bytes bytes end) some t = ap (λ (r : Reader). r.path) t.1
takes_path m n AtEnd some t = ap (λ (a : Ahead). a.reader.path) t.1
takes_path m n (Shrank had is) some t = ap (λ (a : Ahead). a.reader.path) t.1

-- the first bytes are the same
pub passes : (who : Who) (from : Reader) (passed rest : List ℕ) (l m : Ahead) (n : ℕ)
    {before now : Option History} → LogAt who from passed l before now
    → Passed rest l m (Same n) → LogAt who from (passed ++ take n rest) m before now
passes who from passed rest l m n {before = before} {now = now} at p = record {
  text = at.text;
  reads = subst (λ (r : Reader). ReadsOn who from at.text r before now) (sym p.3) at.reads;
  is = at.is ∙ (ap (λ (b : List ℕ). passed ++ b) (sym (take-append-drop n (left_of l)))
      ∙ (ap (λ (b : List ℕ). passed ++ (b ++ drop n (left_of l))) (sym p.2)
      ∙ (ap (λ (b : List ℕ). passed ++ (take n rest ++ b)) (sym p.4)
      ∙ (let z : passed ++ (take n rest ++ left_of m) ≡ (passed ++ take n rest) ++ left_of m =
      simp append_assoc in z))));
  plain = ap (λ (r : Reader). r.lines) p.3 ∙ at.plain;
  place = ap (λ (r : Reader). r.read.offset) p.3 ∙ at.place;
}

-- they differ
pub parts_at : (who : Who) (from : Reader) (passed : List ℕ) (l : Ahead) (at : ℕ)
    {before now : Option History} (rest left : List ℕ) → left_of l ≡ left → 0 < length rest
    → 0 < length left → (get_or rest 0 0 ≡ get_or left 0 0 → ⊥) → at ≡ place_of l
    → LogAt who from passed l before now → DiffersAt who from (passed ++ rest) at before now
parts_at who from passed l at [] left is some full other place log =
    absurd (let z : ⊥ = omega (arith, some) in z)
parts_at who from passed l at (x ∷ xs) [] is some full other place log =
    absurd (let z : ⊥ = omega (arith, full) in z)
parts_at who from passed l at {before = before} {now = now} (x ∷ xs) (y ∷ ys) is some full other
    place log = record {
      front = passed;
      x = x;
      xs = xs;
      y = y;
      ys = ys;
      reader = l.reader;
      has = refl;
      reads = subst (λ (t : List ℕ). ReadsOn who from t l.reader before now)
          (log.is ∙ ap (λ (b : List ℕ). passed ++ b) is) log.reads;
      other = other;
      place = place ∙ place_so who from passed l log;
    }

pub next_met : (who : Who) (from : Reader) (passed rest : List ℕ) (l m : Ahead) (next : Next)
    {before now : Option History} → LogAt who from passed l before now → 0 < length rest
    → 0 < length (left_of l) → Passed rest l m next
    → NextMet who from passed rest m before (Ok next) now
next_met who from passed rest l m (Same n) at some left p = passes who from passed rest l m n at p
next_met who from passed rest l m (Differs place) at some left p =
    parts_at who from passed l place rest (left_of l) refl some left (p.2 left) p.1 at
next_met who from passed rest l m (Ends place) at some left p = absurd p

-- the log has no more
pub ends_met : (who : Who) (from : Reader) (passed : List ℕ) (l : Ahead) (at : ℕ)
    {before mid now : Option History} (rest : List ℕ) → 0 < length rest → at ≡ place_of l
    → LogAt who from passed l before mid → EndsThere who from passed before now
    → EndsAt who from (passed ++ rest) at before now
ends_met who from passed l at [] some place log ends = absurd (let z : ⊥ = omega (arith, some) in z)
ends_met who from passed l at (x ∷ xs) some place log ends = record {
  front = passed;
  x = x;
  xs = xs;
  has = refl;
  ends = ends;
  place = place ∙ place_so who from passed l log;
}

-- so many, and those behind them
pub one_front : (passed rest : List ℕ) (done n : ℕ)
    → (passed ++ take done rest) ++ take n (drop done rest) ≡ passed ++ take (done + n) rest
one_front passed rest done n =
    (let z : (passed ++ take done rest) ++ take n (drop done rest)
    ≡ passed ++ (take done rest ++ take n (drop done rest)) = simp append_assoc in z)
    ∙ ap (λ (b : List ℕ). passed ++ b) (sym (take-add done n rest))

pub one_whole : (passed rest : List ℕ) (done : ℕ)
    → (passed ++ take done rest) ++ drop done rest ≡ passed ++ rest
one_whole passed rest done =
    (let z : (passed ++ take done rest) ++ drop done rest
    ≡ passed ++ (take done rest ++ drop done rest) = simp append_assoc in z)
    ∙ ap (λ (b : List ℕ). passed ++ b) (take-append-drop done rest)

-- reads of a log by a path that is the same
pub log_own : {path other : List ℕ} {old new : Option History} → path ≡ other
    → Adds old new (Every (IsOf (ReadsLogOf path))) → Adds old new (Every (IsOf (ReadsLogOf other)))
log_own {old = old} {new = new} same own =
    subst (λ (p : List ℕ). Adds old new (Every (IsOf (ReadsLogOf p)))) same own

-- what a look at the next bytes keeps, and how far it goes
pub path_of : {path : List ℕ} (rest : List ℕ) (l m : Ahead) (next : Next) → Passed rest l m next
    → l.reader.path ≡ path → m.reader.path ≡ path
path_of rest l m (Same n) p same = ap (λ (r : Reader). r.path) p.3 ∙ same
path_of rest l m (Differs at) p same = ap (λ (a : Ahead). a.reader.path) p.0 ∙ same
path_of rest l m (Ends at) p same = absurd p

pub next_of : (rest : List ℕ) (l m : Ahead) (next : Next) → Passed rest l m next
    → IsNext rest (Ok next)
next_of rest l m (Same n) p = (p.0, p.1)
next_of rest l m (Differs at) p = tt
next_of rest l m (Ends at) p = absurd p

-- one more byte that is the same
pub agreed_more : (one other : List ℕ) (i : ℕ) → i < length one → i < length other
    → get_or one i 0 ≡ get_or other i 0 → take i one ≡ take i other
    → take (i + 1) one ≡ take (i + 1) other
agreed_more one other i low high same so =
    take_more one i 0 low
    ∙ (ap₂ (λ (a : List ℕ) (b : ℕ). a ++ b ∷ []) so same ∙ sym (take_more other i 0 high))

-- the first of the same bytes are the same
pub agreed_front : (one other : List ℕ) (n i : ℕ) → n ≤ i → take i one ≡ take i other
    → take n one ≡ take n other
agreed_front one other n i low so =
    sym (take-take n i one low) ∙ (ap (take n) so ∙ take-take n i other low)
