-- Steps that an agent's rules refuse, each beside one that differs in the one fact and is allowed.
use Rattle.std.proofs.Common.{◌≡◌, ℕ, zero, suc, ◌+◌, ◌≤◌, ◌<◌, Bool, true, false, ◌&&◌, not, List, [], ◌∷◌, length, refl, ap, sym, ◌∙◌, inl, inr, subst, true≢false, arith, bytes_eq}
use Rattle.std.specs.Prelude.{codes, Contains, Any, IsTrue, slice_index_or}
use Rattle.std.proofs.lemmas.Bool.{and_parts}
use Rattle.std.proofs.lemmas.Option.{same_Some, none-some}
use Rattle.chk_bytes.specs.Stems.{Stem}
use Rattle.chk_site.specs.Logs.{TheBase}
use Rattle.chk_site.specs.Acts.{Deed, ReadsLog, Renames, Sends, deed}
use Rattle.chk_site.specs.History.{Step, files_after, since_start}
use Rattle.chk_chunk.specs.Posts.{written_post}
use Rattle.chk_http_grammar.specs.Messages.{written_post_request, written_poll_request}
use Rattle.chk_world.specs.Checkpoints.{Line, line_of, same_log}
use Rattle.chk_world.specs.Agents.{LineMovesForward, LineMay, LineIsTrue, stream_of, IsAtOrPast, AgentRule}
use Rattle.chk_world_examples.specs.Texts.{a1, path, check, check_tmp, text, text_6, line, line_6, stream, hello}
use Rattle.chk_world_examples.specs.Moments.{g2, g6, g7, g27}
use Rattle.chk_world_examples.proofs.ExampleMessages.{in_one}
use Rattle.chk_world_examples.proofs.Unfolded.{texts}
use Rattle.chk_world_examples.specs.Agents.{newest, next_check, no_line, keeping, other_path, no_request}
use Rattle.chk_world.proofs.SmallFiles.{not_both}

none_any : {X : Type 0} (P : X → Type 0) (xs : List X) → [] ≡ xs → Any P xs → ⊥
none_any P xs e a = let below = a.2 in omega (arith, below, ap length e)

pub loses_a_stream : (step : Step) → AgentRule a1 (next_check no_line g6) step (Renames check_tmp check) → ⊥
unfolding texts
loses_a_stream step r =
    let p = r.1 in
    none_any _ p.0 (same_Some [] p.0 p.1) (p.2.none_lost line (0, omega arith, refl))

same_line : LineMovesForward a1 (next_check text g6) stream line line
unfolding texts
same_line = record { class = refl; start = refl; offset = omega arith; after = refl; acknowledged = λ o low high. absurd (omega arith) }

pub keeps_its_stream : AgentRule a1 (next_check text g6) (newest keeping) (Renames check_tmp check)
unfolding texts
keeps_its_stream = (
  refl,
  (
    line ∷ [],
    refl,
    record {
      none_lost = λ l c. subst (λ (old : Line). Any (λ l. IsTrue (same_log old l)) (line ∷ [])) (in_one line l c) (0, line, omega arith, refl, refl);
      each = λ l c. subst (λ (l : Line). LineMay a1 (next_check text g6) (stream_of (codes "h1") l) (line_of (files_after (next_check text g6)) (stream_of (codes "h1") l)) l)
          (in_one line l c) same_line;
      true_at = λ t l c. subst (λ (l : Line). LineIsTrue keeping (stream_of (codes "h1") l) l) (in_one line l c)
          (record { place = record { first = refl; on = omega arith; within = omega arith }; cut = inl refl });
    },
  ),
)

-- what is published can be read
pub unread : (step : Step) → AgentRule a1 (next_check hello g6) step (Renames check_tmp check) → ⊥
unfolding texts
unread step r = none-some r.1.0 r.1.1

-- a new line begins at its start
pub past_its_start : (step : Step) → AgentRule a1 (next_check text_6 g2) step (Renames check_tmp check) → ⊥
unfolding texts
past_its_start step r =
    let p = r.1 in
    let e : line_6 ∷ [] ≡ p.0 = same_Some (line_6 ∷ []) p.0 p.1 in
    let new = p.2.each line_6 (subst (λ (ls : List Line). Contains ls line_6) e (0, omega arith, refl)) in
    let z : ◌≡◌ {A = ℕ} 6 0 = new.offset in
    omega arith

-- a checkpoint moves over acknowledged chunks alone: here nothing was sent
abbrev is_send : Deed → Bool
is_send (Sends m address bytes) = true
is_send call = false

abbrev sends_none : List Step → Bool
sends_none [] = true
sends_none (s ∷ ss) = not (is_send (deed s.act)) && sends_none ss

none_sent : (mine : List Step) (k : ℕ) (s : Step) (m : ℕ) (address bytes : List ℕ) → sends_none mine ≡ true → k < length mine
    → slice_index_or mine k s ≡ s → deed s.act ≡ Sends m address bytes → ⊥
none_sent [] k s m address bytes none below at call = omega arith
none_sent (t ∷ ts) zero s m address bytes none below at call =
    not_both (is_send (deed t.act)) (ap (λ (t : Step). is_send (deed t.act)) at ∙ ap is_send call)
    (and_parts (not (is_send (deed t.act))) (sends_none ts) none).0
none_sent (t ∷ ts) (suc k) s m address bytes none below at call =
    none_sent ts k s m address bytes (and_parts (not (is_send (deed t.act))) (sends_none ts) none).1 (omega arith) at call

pub not_acknowledged : (step : Step) → AgentRule a1 (next_check text_6 g7) step (Renames check_tmp check) → ⊥
unfolding texts
not_acknowledged step r =
    let p = r.1 in
    let e : line_6 ∷ [] ≡ p.0 = same_Some (line_6 ∷ []) p.0 p.1 in
    let moves = p.2.each line_6 (subst (λ (ls : List Line). Contains ls line_6) e (0, omega arith, refl)) in
    let covered = moves.acknowledged 0 (omega arith) (omega arith) in
    let sent = covered.2.posted in
    none_sent (since_start a1 (next_check text_6 g7)) sent.one.0 sent.step _ _ _ refl sent.one.1 sent.one.2 sent.call

-- a log is read from the checkpoint on
pub read_again : (step : Step) → AgentRule a1 g27 step (ReadsLog path TheBase 0 131072) → ⊥
unfolding texts
read_again step r =
    let e : line_6 ≡ r.1 = in_one line_6 r.1 (r.0, r.2, r.3) in
    let at : IsAtOrPast g27 stream TheBase 0 line_6 = subst (λ (l : Line). IsAtOrPast g27 (stream_of a1.name l) TheBase 0 l) (sym e) r.4.1 in
    let z : 6 ≤ 0 + 0 = at.1 in
    omega arith

pub read_on : (step : Step) → AgentRule a1 g27 step (ReadsLog path TheBase 6 131072)
unfolding texts
read_on step = (0, line_6, omega arith, refl, (refl, (refl, omega arith)))

pub reads_another : (step : Step) → AgentRule a1 g27 step (ReadsLog other_path TheBase 6 131072) → ⊥
unfolding texts
reads_another step r =
    let e : line_6 ≡ r.1 = in_one line_6 r.1 (r.0, r.2, r.3) in
    let same : path ≡ other_path = ap (λ (l : Line). l.path) e ∙ r.4.0 in
    true≢false (ap (λ t. bytes_eq t path) same)

abbrev first_letter : List ℕ → ℕ
first_letter [] = 0
first_letter (b ∷ bytes) = b

post_begins : (address body : List ℕ) → first_letter (written_post_request address body) ≡ 80
unfolding written_post_request
post_begins address body = refl

poll_begins : (address : List ℕ) (stems : List Stem) → first_letter (written_poll_request address stems) ≡ 71
unfolding written_poll_request
poll_begins address stems = refl

letter_of_request : first_letter no_request ≡ 79
unfolding written_post_request
letter_of_request = refl

pub sends_no_request : (step : Step) → AgentRule a1 g7 step (Sends 1 (codes "self") no_request) → ⊥
sends_no_request step (inl s) =
    let e : ◌≡◌ {A = ℕ} 79 80 = sym letter_of_request ∙ (ap first_letter s.is_post.is ∙ post_begins (codes "self") (written_post s.chunks)) in
    omega arith
sends_no_request step (inr p) =
    let e : ◌≡◌ {A = ℕ} 79 71 = sym letter_of_request ∙ (ap first_letter p.1.is ∙ poll_begins (codes "self") p.0) in
    omega arith
