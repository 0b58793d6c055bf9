-- Which replies to a poll are good ones.
use Rattle.std.proofs.Common.{◌≡◌, inl, ℕ, zero, suc, ◌+◌, ◌≤◌, drop, arith, List, [], ◌∷◌, length, ap, sym, ◌∙◌, refl}
use Rattle.std.proofs.Common.{Bool, true, false, not, true≢false, eq-eqb}
use Rattle.chk_bytes.specs.Stems.{Stem, same_stem}
use Rattle.chk_world.specs.Names.{SinkFile}
use Rattle.chk_world.proofs.Ends.{bytes_self}
use Rattle.chk_world.proofs.NameTests.{name_same, stem_same as stem_is}
use Rattle.chk_http_grammar.specs.Messages.{Ack, IsGoodReply, acks_text}
use Rattle.chk_http_grammar.proofs.Accepted.{IsGoodReply-same}
use Rattle.chk_world.specs.Agents.{AreFor}
use Rattle.chk_agent_delivery.specs.Scripts.{IsNoPostReply, IsNoPollReply, IsCode}
use Rattle.std.proofs.Common.{subst}

pub for_size : (stems : List Stem) (lengths : List Ack) → AreFor stems lengths → length lengths ≡ length stems
for_size [] [] are = refl
for_size [] (k ∷ lengths) are = absurd are
for_size (x ∷ stems) [] are = absurd are
for_size (x ∷ stems) (k ∷ lengths) are = ap suc (for_size stems lengths are.1)

pub no_lines : (bytes : List ℕ) (stems : List Stem) → IsNoPostReply (length stems) bytes → IsNoPollReply stems bytes
no_lines bytes stems none lengths good are = none lengths good (for_size stems lengths are)

pub other_stems : (bytes : List ℕ) (stems : List Stem) (lines : List Ack) → IsGoodReply lines bytes → (AreFor stems lines → ⊥)
    → IsNoPollReply stems bytes × IsCode bytes 200
other_stems bytes stems lines good other = (
  λ lengths is are. other (subst (AreFor stems) (IsGoodReply-same lengths lines bytes is good) are),
  inl (acks_text lines, good.1),
)

pub same_lines : (bytes : List ℕ) (stems : List Stem) (lines again : List Ack) → IsGoodReply lines bytes → IsGoodReply again bytes
    → AreFor stems lines → AreFor stems again
same_lines bytes stems lines again good is are = subst (AreFor stems) (IsGoodReply-same lines again bytes good is) are

-- ---- the lines of a reply beside the sinks that were asked for

-- what is left of both decides
pub record ForOn (stems : List Stem) (all : List Ack) (i : ℕ) (lines : List Ack) : Type 0 where
  pub on : AreFor (drop i stems) lines → AreFor stems all
  pub back : AreFor stems all → AreFor (drop i stems) lines
  pub size : length lines + i ≡ length stems

pub for_begin : (stems : List Stem) (all : List Ack) → length all ≡ length stems → ForOn stems all 0 all
for_begin stems all size = record { on = λ a. a; back = λ a. a; size = omega (arith, size) }

pub for_on : (stems : List Stem) (all : List Ack) (i : ℕ) (x : Stem) (k : Ack) (lines : List Ack) → ForOn stems all i (k ∷ lines)
    → drop i stems ≡ x ∷ drop (i + 1) stems → k.stem ≡ x → ForOn stems all (i + 1) lines
for_on stems all i x k lines f here same = record {
  on = λ a. f.on (subst (λ xs. AreFor xs (k ∷ lines)) (sym here) (same, a));
  back = λ a. (subst (λ xs. AreFor xs (k ∷ lines)) here (f.back a)).1;
  size = let size = f.size in omega (arith, size);
}

pub for_other : (stems : List Stem) (all : List Ack) (i : ℕ) (x : Stem) (k : Ack) (lines : List Ack) → ForOn stems all i (k ∷ lines)
    → drop i stems ≡ x ∷ drop (i + 1) stems → (k.stem ≡ x → ⊥) → AreFor stems all → ⊥
for_other stems all i x k lines f here other a = other (subst (λ xs. AreFor xs (k ∷ lines)) here (f.back a)).0

pub for_end : (stems : List Stem) (all : List Ack) (i : ℕ) (lines : List Ack) → ForOn stems all i lines → length stems ≤ i → AreFor stems all
for_end stems all i lines f last = f.on (none (drop i stems) lines (no_more stems i last) (let size = f.size in omega (arith, size, last)))
  where
    no_more : (xs : List Stem) (i : ℕ) → length xs ≤ i → drop i xs ≡ []
    no_more [] zero below = refl
    no_more [] (suc i) below = refl
    no_more (x ∷ xs) zero below = absurd (let z : ⊥ = omega (arith, below) in z)
    no_more (x ∷ xs) (suc i) below = no_more xs i (omega (arith, below))

    none : (xs : List Stem) (ks : List Ack) → xs ≡ [] → length ks ≡ 0 → AreFor xs ks
    none [] [] e size = tt
    none [] (k ∷ ks) e size = absurd (let z : ⊥ = omega (arith, size) in z)
    none (x ∷ xs) ks e size = absurd (cc)

pub stem_self : (z : Stem) → same_stem z z ≡ true
stem_self z = rw (bytes_self z.collector, eq-eqb z.born z.born refl, eq-eqb z.number z.number refl) refl

pub named_same : (x y : Stem) → false ≡ not (same_stem x y) → x ≡ y
named_same x y e = go (same_stem x y) refl e
  where
    go : (b : Bool) → same_stem x y ≡ b → false ≡ not b → x ≡ y
    go true is e = stem_is x y is
    go false is e = absurd (true≢false (sym e))

pub named_other : (x y : Stem) → true ≡ not (same_stem x y) → x ≡ y → ⊥
named_other x y e same = true≢false (e ∙ ap not (ap (same_stem x) (sym same) ∙ stem_self x))
