-- A legal step loses no line of a checkpoint and moves none back.
use Rattle.std.proofs.Common.{◌≡◌, ℕ, zero, suc, ◌<◌, Bool, true, false, List, [], ◌∷◌, length, Option, Some, None, ap, sym, subst, ◌∙◌, cond, refl, true≢false, arith, bytes_eq}
use Rattle.std.specs.Prelude.{IsTrue, Contains, slice_index_or, find, unwrap_or}
use Rattle.std.proofs.lemmas.Bool.{and_parts, and_from}
use Rattle.std.proofs.lemmas.Option.{same_Some, none-some}
use Rattle.chk_site.specs.declared.acts.Role.{Role}
use Rattle.chk_site.specs.declared.acts.Role.TheVariants.{Agent, Collector, Job, Writer}
use Rattle.chk_site.specs.declared.acts.Who.{Who}
use Rattle.chk_site.specs.Files.{File}
use Rattle.chk_site.specs.Acts.{deed, Renames}
use Rattle.chk_site.specs.History.{Step, History, files_after}
use Rattle.chk_chunk.specs.Keys.{Stream}
use Rattle.chk_world.specs.Names.{CheckFile, Temporary, is_source, read, file, owns, owns_by}
use Rattle.chk_world.specs.Checkpoints.{Line, read_checkpoint, lines_in, checkpoint_lines, is_line_of, line_of, same_log}
use Rattle.chk_world.specs.Committed.{OnFile, IsWhole}
use Rattle.chk_world.specs.Agents.{CheckpointMovesForward, LineMay, LineMovesForward, MayPublish, AgentRule, stream_of}
use Rattle.chk_world.specs.Rules.{Legal, RoleMay}
use Rattle.chk_world.specs.Laws.{IsCheckpointFile, MovesOn}
use Rattle.chk_world.proofs.Ends.{bytes_same}
use Rattle.chk_world.proofs.Kept.{on_file}
use Rattle.chk_world.proofs.SmallFiles.{step_good, publication, check_owner, readable}

-- what is found in a list
pub record IsFound {X : Type 0} (p : X → Bool) (xs : List X) (x : X) : Type 0 where
  pub one : Contains xs x
  pub passes : p x ≡ true

later : {X : Type 0} (p : X → Bool) (y : X) (ys : List X) (x : X) → IsFound p ys x → IsFound p (y ∷ ys) x
later p y ys x f =
    let below = f.one.1 in
    record { one = (suc f.one.0, omega (arith, below), f.one.2); passes = f.passes }

pub found : {X : Type 0} (p : X → Bool) (xs : List X) (x : X) → find p xs ≡ Some x → IsFound p xs x
found p [] x e = absurd (none-some x e)
found p (y ∷ ys) x e = go (p y) refl e (found p ys x)
  where
    go : (b : Bool) → p y ≡ b → cond b (Some y) (find p ys) ≡ Some x → (find p ys ≡ Some x → IsFound p ys x) → IsFound p (y ∷ ys) x
    go true h e rest = let same : y ≡ x = same_Some y x e in record { one = (0, omega arith, same); passes = ap p (sym same) ∙ h }
    go false h e rest = later p y ys x (rest e)

-- where one passes, the first one is found
pub record Finds {X : Type 0} (p : X → Bool) (xs : List X) : Type 0 where
  pub x : X
  pub is : find p xs ≡ Some x
  pub of : IsFound p xs x

finds : {X : Type 0} (p : X → Bool) (xs : List X) (x : X) → Contains xs x → p x ≡ true → Finds p xs
finds p xs x c h = go xs c.0 c.1 c.2
  where
    pick : (y : _) (ys : List _) (b : Bool) → p y ≡ b → (b ≡ false → Finds p ys) → Finds p (y ∷ ys)
    pick y ys true e rest = record { x = y; is = rw e refl; of = record { one = (0, omega arith, refl); passes = e } }
    pick y ys false e rest =
        let f = rest refl in
        record { x = f.x; is = rw e f.is; of = later p y ys f.x f.of }

    go : (xs : List _) (k : ℕ) → k < length xs → slice_index_or xs k x ≡ x → Finds p xs
    go [] k below at = absurd (let z : ⊥ = omega arith in z)
    go (y ∷ ys) zero below at = pick y ys (p y) refl (λ e. absurd (true≢false (sym (ap p at ∙ h) ∙ e)))
    go (y ∷ ys) (suc k) below at = pick y ys (p y) refl (λ e. go ys k (omega arith) at)

-- a line of the same log is the stream's too
same_stream_line : (s : Stream) (l m : Line) → is_line_of s l ≡ true → same_log l m ≡ true → is_line_of s m ≡ true
same_stream_line s l m a b =
    let p = and_parts (bytes_eq s.kind l.kind) (bytes_eq s.name l.path) a in
    let q = and_parts (bytes_eq l.kind m.kind) (bytes_eq l.path m.path) b in
    and_from _ _ (subst (λ k. bytes_eq s.kind k ≡ true) (bytes_same l.kind m.kind q.0) p.0)
    (subst (λ k. bytes_eq s.name k ≡ true) (bytes_same l.path m.path q.1) p.1)

pub line_stream : (s : Stream) (source : List ℕ) (m : Line) → source ≡ s.source → is_line_of s m ≡ true → stream_of source m ≡ s
line_stream s source m e h =
    let p = and_parts (bytes_eq s.kind m.kind) (bytes_eq s.name m.path) h in
    let a = sym (bytes_same s.kind m.kind p.0) in
    let b = sym (bytes_same s.name m.path p.1) in
    λ i. record { source = e i; kind = a i; name = b i }

-- the agent whose file it is
pub owner_name : (role : Role) (name source : List ℕ) → owns_by role name (CheckFile source) ≡ true → name ≡ source
owner_name Agent name source h = bytes_same name source h
owner_name Collector name source h = absurd (true≢false (sym h))
owner_name Job name source h = absurd (true≢false (sym h))
owner_name Writer name source h = absurd (true≢false (sym h))

module _ (history : History) (step : Step) (s : Stream) (l : Line) (there : line_of (files_after history) s ≡ Some l) where
  -- in the lines of a checkpoint that moves forward
  moved_on : (who : Who) (lines : List Line) → who.name ≡ s.source → CheckpointMovesForward who history step lines → MovesOn l (find (is_line_of s) lines)
  moved_on who lines name moves =
      let old = found (is_line_of s) (checkpoint_lines (files_after history) s.source) l there in
      let kept = moves.none_lost l (subst (λ n. Contains (checkpoint_lines (files_after history) n) l) (sym name) old.one) in
      let f = finds (is_line_of s) lines kept.1 (kept.0, kept.2, kept.3) (same_stream_line s l kept.1 old.passes kept.4) in
      let may = moves.each f.x f.of.one in
      let stream = line_stream s who.name f.x name f.of.passes in
      let forward : LineMay who history s (line_of (files_after history) s) f.x =
      subst (λ t. LineMay who history t (line_of (files_after history) t) f.x) stream may in
      let m : LineMovesForward who history s l f.x = subst (λ o. LineMay who history s o f.x) there forward in
      subst (MovesOn l) (sym f.is) (m.class, m.start, m.offset)

-- the file is whole, and has the stream's line, which moved on
abbrev HasMoved : Stream → Line → Option File → Type 0
HasMoved s l o = OnFile o IsWhole × MovesOn l (find (is_line_of s) (lines_in o))

pub moves_forward : (stamped : List (List ℕ)) (history : History) (step : Step) → Legal stamped (step ∷ history) → (s : Stream)
    → IsTrue (is_source s.source) → (l : Line) → line_of (files_after history) s ≡ Some l → MovesOn l (line_of step.files s)
moves_forward stamped history step legal s known l there =
    (step_good stamped history step (CheckFile s.source) refl known (HasMoved s l) (λ o g. g.0)
    (λ may. absurd (true≢false (sym (and_parts (owns step.act.who (CheckFile s.source)) false may).1))) legal.1 published (
      on_file (file (files_after history) (CheckFile s.source)) (λ f (c : IsCheckpointFile f). c.whole)
          ((readable stamped history legal.0).checkpoints s.source known),
      subst (MovesOn l) (sym there) (refl, refl, omega arith),
    )).1
  where
    good_in : (who : Who) → who.name ≡ s.source → (o : Option File) (f : File) → o ≡ Some f → OnFile o IsWhole
        → OnFile o (λ f. (lines : List Line) × (read_checkpoint f.bytes ≡ Some lines) × CheckpointMovesForward who history step lines)
        → HasMoved s l (Some f)
    good_in who name None f e w p = absurd (none-some f e)
    good_in who name (Some g) f e w p =
        subst (HasMoved s l) e
        (w, subst (λ ls. MovesOn l (find (is_line_of s) ls)) (sym (ap (λ o. unwrap_or o []) p.1)) (moved_on history step s l there who p.0 name p.2))

    published : (old new : List ℕ) → deed step.act ≡ Renames old new → read new ≡ CheckFile s.source → (f : File)
        → file (files_after history) (read old) ≡ Some f → HasMoved s l (Some f)
    published old new is r f at =
        let p = publication stamped history step old new (CheckFile s.source) legal.1 is r refl in
        let who = step.act.who in
        let agent = check_owner who.role who.name s.source p.owned in
        let rule : AgentRule who history step (deed step.act) = subst (λ role. RoleMay stamped role history step) agent legal.1.rule in
        let may : MayPublish who history step (read old) (read new) = subst (AgentRule who history step) is rule in
        let put : MayPublish who history step (Temporary (CheckFile s.source)) (CheckFile s.source) =
        subst (λ m. MayPublish who history step m (CheckFile s.source)) p.from (subst (MayPublish who history step (read old)) r may) in
        let name : who.name ≡ s.source = owner_name who.role who.name s.source p.owned in
        good_in who name (file (files_after history) (Temporary (CheckFile s.source))) f (ap (file (files_after history)) (sym p.from) ∙ at) p.whole_is put.1
