-- A state made of the lines of a checkpoint is held by each legal history that has that checkpoint.
use Rattle.std.proofs.Common.{◌≡◌, inl, inr, ℕ, ◌-◌, nat_le, true, List, [], Some, ap, sym, subst}
use Rattle.std.proofs.Common.{◌∙◌, refl, arith}
use Rattle.std.specs.Prelude.{IsTrue, Contains, slice_get, find}
use Rattle.std.proofs.lemmas.Bool.{and_from, le-leb}
use Rattle.std.proofs.lemmas.Option.{same_Some}
use Rattle.chk_site.specs.Logs.{is_cut_place}
use Rattle.chk_site.specs.History.{History, files_after}
use Rattle.chk_site.proofs.CutPlaces.{last_is}
use Rattle.chk_chunk.specs.Keys.{Stream}
use Rattle.chk_world.specs.Names.{is_source}
use Rattle.chk_world.specs.Checkpoints.{Line, is_line_of, checkpoint_lines, are_apart}
use Rattle.chk_world.specs.Streams.{Parts, parts_of, start_of, bytes_of, is_stream_cut}
use Rattle.chk_world.specs.Agents.{stream_of}
use Rattle.chk_world.specs.Rules.{Legal}
use Rattle.chk_world.specs.Standing.{Stands}
use Rattle.chk_world.proofs.NewLines.{line_found}
use Rattle.chk_world.proofs.LinesTrue.{lines_stand}
use Rattle.chk_agent_adaptor.specs.Adaptors.{adaptor_of, read_line, stream_at}
use Rattle.chk_agent_adaptor.specs.Facts.{place_line, ReaderStands}
use Rattle.chk_agent_delivery.specs.Facts.{EndStands, PostStands, PollStands}
use Rattle.chk_agent_delivery.proofs.Members.{in_map}
use Rattle.chk_failover.specs.Turns.{Turns}
use Rattle.chk_site.specs.declared.acts.Who.{Who}
use Rattle.chk_agent.specs.declared.agent.Rules.{Rules}
use Rattle.chk_agent.specs.States.{State}
use Rattle.chk_agent.specs.Facts.{Holds}
use Rattle.chk_agent.specs.Starts.{IsFresh}
use Rattle.chk_agent.proofs.Soundness.{in_at, map_at}
use Rattle.chk_agent_adaptor.proofs.Told.{stands_like}

none_of : {X : Type 0} {xs : List X} {x : X} → xs ≡ [] → Contains xs x → ⊥
none_of {x = x} e c = let d = subst (λ l. Contains l x) e c in let below = d.1 in omega (arith, below)

-- the start of a stream is a place at which a reader may stop, and so is each place that stands
start_cut : (history : History) (s : Stream) → IsTrue (is_stream_cut history s (start_of history s))
start_cut history s =
    let p : Parts = parts_of history s in
    let start : ℕ = start_of history s in
    let none : start - start ≡ 0 = omega arith in
    and_from (nat_le start start) _ (le-leb start start (omega arith))
    (subst (λ k. is_cut_place p.lines (bytes_of p.rotated) p.base k ≡ true) (sym none)
    (last_is p.lines (bytes_of p.rotated) p.base 0).cut)

pub stand_cut : (history : History) (s : Stream) (l : Line) → Stands history s l → IsTrue (is_stream_cut history s l.offset)
stand_cut history s l h = elim h.cut [
  | inl at ↦ subst (λ o. IsTrue (is_stream_cut history s o)) (sym at) (start_cut history s)
  | inr cut ↦ cut
]

pub holds_started : (stamped : List (List ℕ)) (history : History) → Legal stamped history
    → (who : Who) (ring : Turns) (rules : Rules) (s : State) → IsTrue (is_source s.source) → IsFresh who ring rules s
    → checkpoint_lines (files_after history) s.source ≡ s.saved → are_apart s.saved ≡ true → Holds s history
holds_started stamped history legal who ring rules s known h there apart = record {
  readers = λ a one. let m = in_map adaptor_of s.saved a (subst (λ xs. Contains xs a) h.adaptors one) in
      subst (λ a. ReaderStands s.source a history) m.2 (reader m.0 m.1);
  delivery = record {
    queue = λ c one. absurd (none_of h.queue one);
    rows = λ row one. absurd (none_of h.rows one);
    ends = λ i t saved at found.
        let k = map_at (stream_at s.source) s.adaptors i t at in
        let m = map_at adaptor_of s.saved i k.0 (subst (λ xs. slice_get xs i ≡ Some k.0) h.adaptors k.1) in
        let one = in_at s.saved i m.0 m.1 in
        let stream : stream_of s.source m.0 ≡ t = ap (stream_at s.source) m.2 ∙ k.2 in
        let same : saved ≡ m.0 =
        same_Some saved m.0 (sym found
        ∙ subst (λ t. find (is_line_of t) s.saved ≡ Some m.0) stream (line_found s.source s.saved m.0 apart one)) in
        subst (λ o. EndStands s.source o t saved history) (sym (h.committed i m.0 m.1))
        (subst (λ l. EndStands s.source m.0.offset t l history) (sym same)
        (subst (λ t. EndStands s.source m.0.offset t m.0 history) stream (record {
          acknowledged = λ o low high. absurd (let z : ⊥ = omega (arith, low, high) in z);
          first = (stand m.0 one).first;
          founded = (stand m.0 one).founded;
          cut = stand_cut history (stream_of s.source m.0) m.0 (stand m.0 one);
        })));
    post = subst (λ p. PostStands s.source s.delivery.queue.chunks p history) (sym h.post) tt;
    poll = subst (λ p. PollStands s.source p history) (sym h.poll) tt;
  };
}
  where
    stand : (l : Line) → Contains s.saved l → Stands history (stream_of s.source l) l
    stand l one =
        (lines_stand stamped history legal (stream_of s.source l) known l
        (ap (find (is_line_of (stream_of s.source l))) there ∙ line_found s.source s.saved l apart one)).stands

    reader : (l : Line) → Contains s.saved l → ReaderStands s.source (adaptor_of l) history
    reader l one = record {
      read = stands_like history (stream_of s.source l) l (read_line (adaptor_of l)) refl refl refl (stand l one);
      marks = stands_like history (stream_of s.source l) l
          (place_line (adaptor_of l) (record { after = l.after; first = l.first; offset = l.offset })) refl refl refl (stand l one);
    }
