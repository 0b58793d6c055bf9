-- Further steps that a collector's rules refuse, each beside one that differs in the one fact and is allowed, and what else holds of them.
use Rattle.chk_site.specs.declared.acts.Call.TheVariants.{Create, Append, Rename, Answer}
use Rattle.chk_world_examples.specs.Texts.{body, reply, c1, born, born_tmp, sink, head, entry, mark_tmp, mark}
use Rattle.chk_world_examples.specs.Moments.{h6, g10, g13}
use Rattle.chk_world_examples.proofs.Went.{else_holds}
use Rattle.std.proofs.Common.{◌≡◌, ℕ, ◌+◌, [], ◌∷◌, bytes_eq, refl, ap, sym, inl, inr, true≢false, arith}
use Rattle.std.proofs.lemmas.Option.{same_Some}
use Rattle.chk_bytes.specs.Stems.{Stem}
use Rattle.chk_site.specs.declared.acts.ActAnswer.TheVariants.{Done}
use Rattle.chk_site.specs.Acts.{Creates, Appends, Renames, Answers}
use Rattle.chk_http_grammar.proofs.Accepted.{never_both}
use Rattle.chk_world.specs.Collectors.{CollectorRule, view}
use Rattle.chk_world_examples.proofs.ExampleMessages.{posted, replied_so}
use Rattle.chk_world_examples.specs.Refusing.{TheRule, ObeysBut, next_by}
use Rattle.chk_world_examples.proofs.Unfolded.{texts}
use Rattle.chk_world_examples.specs.Collectors.{skipped, other_sink, second_made, marked_short}

pub number_skipped : CollectorRule c1 skipped (view c1 skipped) (Renames born_tmp born) → ⊥
unfolding texts
number_skipped = λ r. let e : ◌≡◌ {A = ℕ} 2 (0 + 1) = r.2.1 in omega arith

pub number_skipped_alone : ObeysBut TheRule skipped (next_by c1 Rename (born_tmp ∷ born ∷ []) 0 0 (Done [] 0 0) skipped)
unfolding texts
number_skipped_alone = else_holds c1 Rename (born_tmp ∷ born ∷ []) 0 0 [] 0 0 skipped tt refl refl
    refl (refl, (refl, refl)) tt tt

pub another_start : CollectorRule c1 h6 (view c1 h6) (Creates other_sink) → ⊥
unfolding texts
another_start = λ r. let e : ◌≡◌ {A = ℕ} 1 2 = same_Some 1 2 r.0 in omega arith

pub another_start_alone : ObeysBut TheRule h6 (next_by c1 Create (other_sink ∷ []) 0 0 (Done [] 0 0) h6)
unfolding texts
another_start_alone = else_holds c1 Create (other_sink ∷ []) 0 0 [] 0 0 h6 tt refl refl refl refl
    tt tt

pub older_sink : CollectorRule c1 second_made (view c1 second_made) (Appends sink entry) → ⊥
unfolding texts
older_sink = λ r. let e : ◌≡◌ {A = ℕ} 2 1 = ap (λ (x : Stem). x.number) r.0 in omega arith

pub older_sink_alone : ObeysBut TheRule second_made (next_by c1 Append (sink ∷ entry ∷ []) 0 0 (Done [] 0 0) second_made)
unfolding texts
older_sink_alone = else_holds c1 Append (sink ∷ entry ∷ []) 0 0 [] 0 0 second_made (omega arith)
    refl refl refl refl tt tt

-- and a sink begins with its header

pub no_header : CollectorRule c1 g10 (view c1 g10) (Appends sink entry) → ⊥
unfolding texts
no_header = λ r. true≢false (sym (ap (λ t. bytes_eq t head) r.1))

pub no_header_alone : ObeysBut TheRule g10 (next_by c1 Append (sink ∷ entry ∷ []) 0 0 (Done [] 0 0) g10)
unfolding texts
no_header_alone = else_holds c1 Append (sink ∷ entry ∷ []) 0 0 [] 0 0 g10 (omega arith) refl refl
    refl refl tt tt

pub short_mark : CollectorRule c1 marked_short (view c1 marked_short) (Renames mark_tmp mark) → ⊥
unfolding texts
short_mark = λ r. let e : ◌≡◌ {A = ℕ} 144 96 = r.1.2.0.0 in omega arith

pub short_mark_alone : ObeysBut TheRule marked_short (next_by c1 Rename (mark_tmp ∷ mark ∷ []) 0 0 (Done [] 0 0) marked_short)
unfolding texts
short_mark_alone = else_holds c1 Rename (mark_tmp ∷ mark ∷ []) 0 0 [] 0 0 marked_short tt refl
    refl refl (refl, (refl, refl)) tt tt

-- a post is answered once

pub answered_twice : CollectorRule c1 g13 (view c1 g13) (Answers 1 reply) → ⊥
unfolding texts
answered_twice = λ r. elim (r.1 body replied_so).2 [
  | inl p ↦ true≢false p.open_yet
  | inr q ↦ never_both posted.0 q.stems _ posted.1 q.poll
]

pub answered_twice_alone : ObeysBut TheRule g13 (next_by c1 Answer (reply ∷ []) 1 0 (Done [] 0 0) g13)
unfolding texts
answered_twice_alone = else_holds c1 Answer (reply ∷ []) 1 0 [] 0 0 g13 tt tt refl refl tt tt tt
