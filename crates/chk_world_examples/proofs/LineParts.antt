-- What an agent's checkpoint of one line owes, part by part.
use Rattle.std.proofs.Common.{◌≡◌, List, [], ◌∷◌, Option, Some, None, refl, sym, ◌∙◌, subst, arith}
use Rattle.std.specs.Prelude.{codes, Contains, Any, IsTrue}
use Rattle.std.proofs.lemmas.Option.{same_Some}
use Rattle.chk_site.specs.Files.{File, Moved}
use Rattle.chk_site.specs.History.{History, files_after}
use Rattle.chk_world.specs.Names.{CheckFile, Temporary, read, spell, file}
use Rattle.chk_world.specs.Checkpoints.{Line, read_checkpoint, line_of, same_log}
use Rattle.chk_world.specs.Committed.{HasFile, OnFile}
use Rattle.chk_world.specs.Agents.{LineMay, LineIsTrue, stream_of, CheckpointMovesForward}
use Rattle.chk_world_examples.specs.Texts.{a1, check, check_tmp, stream}
use Rattle.chk_world_examples.proofs.ExampleMessages.{in_one, in_none}
use Rattle.chk_world_examples.specs.Agents.{newest}
use Rattle.chk_world_examples.specs.Refusing.{TheRule, ObeysBut}
use Rattle.chk_world_examples.specs.Lines.{published, FollowsBut, OwesBut, one_or_none, OfOneLog, Written, Publishes, NoPart}

-- all else that a step owes holds of the publication
pub else_obeys : (history : History) (old : Option Line) (new : Line) → Written history old new
    → ObeysBut TheRule history (newest (published history))
unfolding read spell
else_obeys history old new w = record {
  honest = record {
    modelled = record { effect = record { did = Moved check_tmp check; may = refl; files_left = λ n. refl; logs_left = λ p. refl }; small = tt };
    agrees = w.there;
  };
  named = refl;
  starts = w.starts;
  own_files = (refl, (refl, w.whole));
  logs = tt;
  requests = tt;
  rule = tt;
}

-- the lines that are published are the written ones
published_lines : (o : Option File) (new : Line) (P : List Line → Type 0)
    → HasFile o (λ f. read_checkpoint f.bytes ≡ Some (new ∷ []))
    → OnFile o (λ f. (lines : List Line) × (read_checkpoint f.bytes ≡ Some lines) × P lines) → P (new ∷ [])
published_lines None new P h p = absurd h
published_lines (Some f) new P h p = subst P (sym (same_Some (new ∷ []) p.0 (sym h ∙ p.1))) p.2

-- what a publication that is allowed shows of its line
pub owed : (history : History) (old : Option Line) (new : Line) → Written history old new → Publishes history
    → LineMay a1 history stream old new × LineIsTrue (published history) stream new
unfolding read spell
owed history old new w r =
    let f = published_lines (file (files_after history) (Temporary (CheckFile (codes "h1")))) new
    (λ lines. CheckpointMovesForward a1 history (newest (published history)) lines) w.next r.1 in
    let here : Contains (new ∷ []) new = (0, omega arith, refl) in (
      subst (λ o. LineMay a1 history stream o new) w.found
          (subst (λ s. LineMay a1 history s (line_of (files_after history) s) new) w.of (f.each new here)),
      subst (λ s. LineIsTrue (published history) s new) w.of (f.true_at w.took new here),
    )

-- a line of which all parts hold may be published
follows : (history : History) (old : Option Line) (new : Line) → FollowsBut NoPart history old new → LineMay a1 history stream old new
follows history None new b = record { first = b.first; offset = b.offset; after = b.suffix }
follows history (Some old) new m =
    record { class = m.class; start = m.start; offset = m.offset; after = m.suffix; acknowledged = m.chunks }

none_lost : (old : Option Line) (new : Line) → OfOneLog old new → (l : Line) → Contains (one_or_none old) l
    → Any (λ m. IsTrue (same_log l m)) (new ∷ [])
none_lost None new same l c = absurd (in_none l c)
none_lost (Some old) new same l c = subst (λ l. Any (λ m. IsTrue (same_log l m)) (new ∷ [])) (in_one old l c) (0, new, omega arith, refl, same)

publishes : (o : Option File) (new : Line) (P : List Line → Type 0) → HasFile o (λ f. read_checkpoint f.bytes ≡ Some (new ∷ []))
    → P (new ∷ []) → OnFile o (λ f. (lines : List Line) × (read_checkpoint f.bytes ≡ Some lines) × P lines)
publishes None new P h p = tt
publishes (Some f) new P h p = (new ∷ [], h, p)

pub allowed : (history : History) (old : Option Line) (new : Line) → Written history old new → OwesBut NoPart history old new → Publishes history
unfolding read spell
allowed history old new w owes = (
  refl,
  publishes (file (files_after history) (Temporary (CheckFile (codes "h1")))) new
      (λ lines. CheckpointMovesForward a1 history (newest (published history)) lines) w.next
      (record {
        none_lost = λ l c. none_lost old new w.same l (subst (λ ls. Contains ls l) w.lines c);
        each = λ l c. subst (λ l. LineMay a1 history (stream_of (codes "h1") l) (line_of (files_after history) (stream_of (codes "h1") l)) l)
            (in_one new l c)
            (subst (λ s. LineMay a1 history s (line_of (files_after history) s) new) (sym w.of)
            (subst (λ o. LineMay a1 history stream o new) (sym w.found) (follows history old new owes.follows)));
        true_at = λ t l c. subst (λ l. LineIsTrue (published history) (stream_of (codes "h1") l) l) (in_one new l c)
            (subst (λ s. LineIsTrue (published history) s new) (sym w.of) (record { place = owes.place; cut = owes.cut }));
      }),
)
