-- Those of the chunks that a subscriber wants, one after the other.
use Rattle.std.proofs.Common.{◌≡◌, ℕ, ◌<◌, Bool, List, [], ◌∷◌, ◌++◌, length, refl, sym, ap, ◌∙◌, subst, arith, append_assoc}
use Rattle.std.specs.Prelude.{IsTrue}
use Rattle.std.specs.List.{list_all}
use Rattle.std.proofs.lemmas.Bool.{and_parts}
use Rattle.chk_bytes.specs.Numbers.{be32}
use Rattle.chk_chunk.specs.Keys.{Chunk}
use Rattle.chk_http_grammar.specs.Messages.{Ack}
use Rattle.chk_tee.specs.Messages.{Teed, IsTee, tee_mark, written_teeds, written_tee}
use Rattle.chk_tee.specs.Filters.{passing}
use Rattle.chk_tee.specs.declared.filters.Filter.{Filter}
use Rattle.chk_tee.proofs.PassingLemmas.{passing-append, written-append, passing_is_tee}
use Rattle.chk_tee_sender.specs.Offers.{teed_of, teeds_of, items_of, IsSound}
use Rattle.chk_tee_sender.specs.declared.offers.Offer.{Offer}
use Rattle.chk_tee_sender.proofs.OfferLemmas.{offer_facts}

-- those of the rest that pass
abbrev pub rest_of : Filter → List Chunk → List Ack → List Teed
rest_of f cs xs = passing f (teeds_of cs xs)

none_left : (cs : List Chunk) → teeds_of cs [] ≡ []
none_left [] = refl
none_left (c ∷ cs) = refl

both_next : (cs rest : List Chunk) (xs more : List Ack) (c : Chunk) (a : Ack) → cs ≡ c ∷ rest → xs ≡ a ∷ more
    → teeds_of cs xs ≡ teed_of c a ∷ teeds_of rest more
both_next cs rest xs more c a p q = ap (λ l. teeds_of l xs) p ∙ ap (teeds_of (c ∷ rest)) q

pub all_first : (p : Ack → Bool) (xs more : List Ack) (a : Ack) → xs ≡ a ∷ more → IsTrue (list_all p xs)
    → IsTrue (p a) × IsTrue (list_all p more)
all_first p xs more a is all = and_parts (p a) (list_all p more) (subst (λ (l : List Ack). IsTrue (list_all p l)) is all)

-- ---- their bytes

pub push_next : (f : Filter) (cs rest : List Chunk) (xs more : List Ack) (c : Chunk) (a : Ack) (out next whole : List ℕ) → cs ≡ c ∷ rest
    → xs ≡ a ∷ more → out ++ written_teeds (rest_of f cs xs) ≡ whole
    → next ≡ out ++ written_teeds (passing f (teed_of c a ∷ [])) → next ++ written_teeds (rest_of f rest more) ≡ whole
push_next f cs rest xs more c a out next whole p q so_far is =
    let here : List ℕ = written_teeds (passing f (teed_of c a ∷ [])) in
    let later : List ℕ = written_teeds (rest_of f rest more) in
    let both : written_teeds (rest_of f cs xs) ≡ here ++ later =
    ap written_teeds (ap (passing f) (both_next cs rest xs more c a p q) ∙ passing-append f (teed_of c a ∷ []) (teeds_of rest more))
    ∙ written-append (passing f (teed_of c a ∷ [])) (rest_of f rest more) in
    ap (λ l. l ++ later) is ∙ (append_assoc out here later ∙ (ap (λ l. out ++ l) (sym both) ∙ so_far))

-- the whole message
pub wanted_whole : (f : Filter) (o : Offer) (n : ℕ) (empty head out : List ℕ) → IsSound o → n ≡ length (passing f (items_of o)) → 0 < n
    → empty ≡ [] → head ≡ empty ++ (tee_mark ++ be32 n) → out ≡ head ++ written_teeds (passing f (items_of o))
    → (out ≡ written_tee (passing f (items_of o))) × IsTee (passing f (items_of o)) out
wanted_whole f o n empty head out sound count some none first is =
    let facts = offer_facts o sound in
    let front : head ≡ tee_mark ++ be32 (length (passing f (items_of o))) =
    first ∙ (ap (λ e. e ++ (tee_mark ++ be32 n)) none ∙ ap (λ m. tee_mark ++ be32 m) count) in
    let whole : out ≡ written_tee (passing f (items_of o)) = is ∙ ap (λ h. h ++ written_teeds (passing f (items_of o))) front in (
      whole,
      subst (λ (tee : List ℕ). IsTee (passing f (items_of o)) tee) (sym whole)
          (passing_is_tee f (items_of o) facts.few facts.valid facts.fits (omega arith)),
    )
