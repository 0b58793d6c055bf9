-- The chunks of an answered post with their lines: they fit one message, and there is one list of them at most.
use Rattle.std.proofs.Common.{◌≡◌, ℕ, zero, suc, ◌+◌, ◌*◌, ◌≤◌, Bool, true, false, List, [], ◌∷◌, ◌++◌, length, refl, sym, ap, ap₂, ◌∙◌, subst, arith, length-append, inl, inr}
use Rattle.std.specs.Prelude.{IsTrue}
use Rattle.std.specs.List.{list_all}
use Rattle.std.proofs.lemmas.Bool.{and_parts, cond-true, cond-false}
use Rattle.chk_bytes.specs.Numbers.{be64, with_length}
use Rattle.chk_bytes.specs.Stems.{is_stem, stem_text}
use Rattle.chk_bytes.proofs.StemLemmas.{length-stem_text}
use Rattle.chk_chunk.specs.Keys.{Key, Chunk, IsKey, is_key, is_chunk, fits_1, key_1, key_2, written_key, counted}
use Rattle.chk_chunk.specs.Posts.{IsPost, ArePostParts, post_part}
use Rattle.chk_chunk.proofs.KeySizes.{key_1_size, key_2_size}
use Rattle.chk_chunk.proofs.PostGrammar.{one_post, post_read}
use Rattle.chk_http.specs.Lines.{IsLines}
use Rattle.chk_http.proofs.LineLemmas.{lines_named}
use Rattle.chk_http_grammar.specs.Messages.{Ack, is_ack, PostRequest, IsPostOf}
use Rattle.chk_http_grammar.proofs.Accepted.{PostRequest-same, IsGoodReply-same}
use Rattle.chk_tee.specs.Messages.{Teed, AreTeed, is_teed, written_teed, written_teeds, written_tee, tee_limit, most_teed}
use Rattle.chk_tee_sender.specs.Offers.{teed_of, teeds_of, is_placed, IsPlacedPost, IsSound, chunks_in, chunks_of, acks_of, items_of}
use Rattle.chk_tee_sender.specs.declared.offers.Offer.{Offer}

-- a key is no longer as it is written than in any other spelling
shortest_by : (k : Key) (b : Bool) → fits_1 k ≡ b → length (written_key k) ≤ length (key_2 k)
unfolding written_key
shortest_by k true e = omega (arith, ap length (cond-true (fits_1 k) (key_1 k) (key_2 k) e), key_1_size k, key_2_size k)
shortest_by k false e = omega (arith, ap length (cond-false (fits_1 k) (key_1 k) (key_2 k) e))

shortest_key : (k : Key) (key : List ℕ) → IsKey k key → length (written_key k) ≤ length key
unfolding written_key
shortest_key k key (inl h) =
    let fits : fits_1 k ≡ true = (and_parts (is_key k) (fits_1 k) h.0).1 in
    omega (arith, ap length (cond-true (fits_1 k) (key_1 k) (key_2 k) fits), ap length h.1)
shortest_key k key (inr h) = omega (arith, shortest_by k (fits_1 k) refl, ap length h.1)

-- how long a chunk is in a message and in a post
part_size : (key value : List ℕ) → length (post_part key value) ≡ 8 + length key + length value
part_size key value = omega (arith, length-append (with_length key) (with_length value))

teed_size : (t : Teed) → length (written_teed t) ≡ 18 + length (stem_text t.stem) + length (written_key t.chunk.key) + length t.chunk.value
unfolding written_teed
teed_size t =
    omega (
      arith,
      length-append (counted (stem_text t.stem)) (be64 t.offset ++ post_part (written_key t.chunk.key) t.chunk.value),
      part_size (written_key t.chunk.key) t.chunk.value,
    )

-- the stem and the offset cost at most 114 bytes
teeds_size : (chunks : List Chunk) (acks : List Ack) (parts : List ℕ) → IsTrue (list_all is_ack acks) → ArePostParts chunks parts
    → length (written_teeds (teeds_of chunks acks)) ≤ length parts + 114 * length chunks
teeds_size [] acks parts valid are = omega arith
teeds_size (c ∷ cs) [] parts valid are = omega arith
teeds_size (c ∷ cs) (a ∷ acks) parts valid are =
    let rest : List ℕ = are.1 in
    let ack : IsTrue (is_ack a) × IsTrue (list_all is_ack acks) = and_parts (is_ack a) (list_all is_ack acks) valid in
    let stem : IsTrue (is_stem a.stem) = (and_parts (is_stem a.stem) _ ack.0).0 in
    omega (
      arith,
      teed_size (teed_of c a),
      (length-stem_text a.stem stem).1,
      shortest_key c.key are.0 are.3,
      part_size are.0 c.value,
      ap length are.4,
      length-append (post_part are.0 c.value) rest,
      length-append (written_teed (teed_of c a)) (written_teeds (teeds_of cs acks)),
      teeds_size cs acks rest ack.1 are.5,
    )

pub count_of : (chunks : List Chunk) (acks : List Ack) → length acks ≡ length chunks → length (teeds_of chunks acks) ≡ length chunks
count_of [] acks same = refl
count_of (c ∷ cs) [] same = absurd (omega arith)
count_of (c ∷ cs) (a ∷ acks) same = omega (arith, count_of cs acks (omega arith))

pub offer_fits : (chunks : List Chunk) (acks : List Ack) (body : List ℕ) → IsPost chunks body → IsTrue (list_all is_ack acks)
    → length (written_tee (teeds_of chunks acks)) ≤ tee_limit
offer_fits chunks acks body post valid =
    omega (
      arith,
      post.few,
      post.short,
      ap length post.is,
      teeds_size chunks acks post.parts valid post.are,
    )

-- a chunk with a line that isn't 0 can be spelled
pub teed_valid : (c : Chunk) (a : Ack) → IsTrue (is_chunk c) → IsTrue (is_ack a) → IsTrue (is_placed a) → IsTrue (is_teed (teed_of c a))
teed_valid c a chunk ack placed =
    let stem = and_parts (is_stem a.stem) _ ack in
    grind (arith, stem.0, stem.1, placed, chunk)

-- a post and its reply are so in one way at most
pub one_offer : (request reply : List ℕ) (cs ds : List Chunk) (xs ys : List Ack) → IsPlacedPost request reply cs xs
    → IsPlacedPost request reply ds ys → teeds_of cs xs ≡ teeds_of ds ys
one_offer request reply cs ds xs ys p q =
    let post = p.post in
    let other = q.post in
    let chunks : cs ≡ ds =
    one_post cs ds post.0 post.2 (subst (λ b. IsPost ds b) (sym (PostRequest-same post.0 other.0 request post.1 other.1)) other.2) in
    let lines : xs ≡ ys = IsGoodReply-same xs ys reply p.good q.good in
    ap₂ teeds_of chunks lines

-- ---- how an offer is kept

pub posted_here : (body : List ℕ) (chunks : List Chunk) (count n : ℕ) → IsPost chunks body → count ≡ length chunks → n ≡ count
    → IsPost (chunks_in body) body × (n ≡ length (chunks_in body))
posted_here body chunks count n post counted is =
    let same : chunks_in body ≡ chunks = (post_read body chunks post).are in
    (subst (λ (cs : List Chunk). IsPost cs body) (sym same) post, is ∙ (counted ∙ ap length (sym same)))

pub same_lines : (count : ℕ) (xs ys : List Ack) (body : List ℕ) → IsLines count xs body → IsLines count ys body → xs ≡ ys
same_lines count xs ys body p q = sym (lines_named count xs body p) ∙ lines_named count ys body q

-- ---- what is offered can be spelled

pub teeds_valid : (cs : List Chunk) (xs : List Ack) (parts : List ℕ) → ArePostParts cs parts → IsTrue (list_all is_ack xs)
    → IsTrue (list_all is_placed xs) → AreTeed (teeds_of cs xs)
teeds_valid [] xs parts are acks placed k d within = absurd (omega arith)
teeds_valid (c ∷ cs) [] parts are acks placed k d within = absurd (omega arith)
teeds_valid (c ∷ cs) (a ∷ xs) parts are acks placed zero d within =
    teed_valid c a are.2 (and_parts (is_ack a) (list_all is_ack xs) acks).0 (and_parts (is_placed a) (list_all is_placed xs) placed).0
teeds_valid (c ∷ cs) (a ∷ xs) parts are acks placed (suc k) d within =
    teeds_valid cs xs are.1 are.5 (and_parts (is_ack a) (list_all is_ack xs) acks).1
    (and_parts (is_placed a) (list_all is_placed xs) placed).1 k d (omega arith)

pub record OfferFacts (o : Offer) : Type 0 where
  pub few : length (items_of o) ≤ most_teed
  pub valid : AreTeed (items_of o)
  pub fits : length (written_tee (items_of o)) ≤ tee_limit

pub offer_facts : (o : Offer) → IsSound o → OfferFacts o
offer_facts o sound =
    let post = sound.post in
    let lines = sound.lines.lines in
    record {
      few = omega (arith, post.few, count_of (chunks_of o) (acks_of o) (lines.many ∙ sound.count));
      valid = teeds_valid (chunks_of o) (acks_of o) post.parts post.are lines.are sound.lines.placed;
      fits = offer_fits (chunks_of o) (acks_of o) o.post.now post lines.are;
    }

-- as many lines as chunks
pub each_counted : (request post : List ℕ) (chunks : List Chunk) (count : ℕ) → IsPostOf chunks request → PostRequest post request
    → IsPost (chunks_in post) post × (count ≡ length (chunks_in post)) → length chunks ≡ count
each_counted request post chunks count of is here =
    let body : of.0 ≡ post = PostRequest-same of.0 post request of.1 is in
    let same : chunks ≡ chunks_in post =
    one_post chunks (chunks_in post) post (subst (λ (b : List ℕ). IsPost chunks b) body of.2) here.0 in
    ap length same ∙ sym here.1
