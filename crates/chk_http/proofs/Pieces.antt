-- Messages that are written piece by piece.
use Rattle.std.proofs.Common.{◌≡◌, ℕ, ◌+◌, ◌/◌, ◌%◌, ◌<◌, ◌≤◌, ◌^◌, true, IsTrue, List, [], ◌∷◌, ◌++◌, length, get_or, take, refl, sym, subst, ap, ap₂, inl, inr, ◌∙◌, arith, append_assoc}
use Rattle.std.specs.Prelude.{codes, decimal, ◌==◌, unwrap_or, Option, Some, None}
use Rattle.std.specs.List.{list_all}
use Rattle.std.proofs.lemmas.Fmt.{decimal_step, decimal_digit}
use Rattle.std.proofs.lemmas.List.{take_more, length-take-le}
use Rattle.std.proofs.lemmas.List.Folds.{list_all_more}
use Rattle.std.proofs.lemmas.Bool.{and_from, cond-false, ne_eqb, eqb-true, or_cases}
use Rattle.std.specs.Option.{option_map}
use Rattle.std.specs.Borrow.{Bor}
use Rattle.http.specs.StatusCode.{code_digits, reason_phrase}
use Rattle.httparse.proofs.GrammarLemmas.{cons-append}
use Rattle.chk_bytes.specs.Stems.{Stem, is_stem, stem_text}
use Rattle.chk_http.specs.Written.{is_answer_code, separator_at, phrase_of}
use Rattle.chk_http_grammar.specs.Messages.{head_line, is_phrase, query_text, written_post_request, written_poll_request, written_reply}

-- five and six pieces, one after the other
joined_5 : (a b c d e n0 n1 n2 n3 n4 n5 : List ℕ) → n0 ≡ [] → n1 ≡ n0 ++ a → n2 ≡ n1 ++ b → n3 ≡ n2 ++ c → n4 ≡ n3
    ++ d → n5 ≡ n4 ++ e
    → n5 ≡ a ++ (b ++ (c ++ (d ++ e)))
joined_5 a b c d e n0 n1 n2 n3 n4 n5 e0 e1 e2 e3 e4 e5 =
    e5 ∙ (ap (λ x. x
    ++ e) (e4 ∙ ap (λ x. x ++ d) (e3 ∙ ap (λ x. x ++ c) (e2 ∙ ap (λ x. x ++ b) (e1 ∙ ap (λ x. x ++ a) e0))))
    ∙ flat a b c d e)
  where
    flat : (a b c d e : List ℕ) → ((((([] ++ a) ++ b) ++ c) ++ d) ++ e) ≡ a ++ (b ++ (c ++ (d ++ e)))
    flat a b c d e = simp append_assoc

joined_6 : (a b c d e f n0 n1 n2 n3 n4 n5 n6 : List ℕ) → n0 ≡ [] → n1 ≡ n0 ++ a → n2 ≡ n1 ++ b → n3 ≡ n2 ++ c
    → n4 ≡ n3 ++ d
    → n5 ≡ n4 ++ e → n6 ≡ n5 ++ f → n6 ≡ a ++ (b ++ (c ++ (d ++ (e ++ f))))
joined_6 a b c d e f n0 n1 n2 n3 n4 n5 n6 e0 e1 e2 e3 e4 e5 e6 =
    e6 ∙ (ap (λ x. x ++ f) (joined_5 a b c d e n0 n1 n2 n3 n4 n5 e0 e1 e2 e3 e4 e5) ∙ flat a b c d e f)
  where
    flat : (a b c d e f : List ℕ) → (a ++ (b ++ (c ++ (d ++ e)))) ++ f ≡ a ++ (b ++ (c ++ (d ++ (e ++ f))))
    flat a b c d e f = simp append_assoc

pub post_joined : (address body n0 n1 n2 n3 n4 n5 n6 : List ℕ) → n0 ≡ [] → n1 ≡ n0 ++ codes "POST /chukwa HTTP/1.1\r\n"
    → n2 ≡ n1 ++ head_line (codes "Host: " ++ address) → n3 ≡ n2 ++ codes "Content-Type: application/octet-stream\r\n"
    → n4 ≡ n3 ++ head_line (codes "Content-Length: " ++ decimal (length body)) → n5 ≡ n4
    ++ codes "Connection: close\r\n\r\n"
    → n6 ≡ n5 ++ body → n6 ≡ written_post_request address body
unfolding written_post_request
post_joined address body n0 n1 n2 n3 n4 n5 n6 e0 e1 e2 e3 e4 e5 e6 =
    joined_6 (codes "POST /chukwa HTTP/1.1\r\n") (head_line (codes "Host: "
    ++ address)) (codes "Content-Type: application/octet-stream\r\n")
    (head_line (codes "Content-Length: " ++ decimal (length body))) (codes "Connection: close\r\n\r\n") body
    n0 n1 n2 n3 n4 n5 n6 e0 e1 e2 e3 e4 e5 e6

pub poll_joined : (address : List ℕ) (stems : List Stem) (n0 n1 n2 n3 n4 n5 : List ℕ) → n0 ≡ [] → n1 ≡ n0
    ++ codes "GET /acks?"
    → n2 ≡ n1 ++ query_text stems → n3 ≡ n2 ++ codes " HTTP/1.1\r\n" → n4 ≡ n3 ++ head_line (codes "Host: " ++ address)
    → n5 ≡ n4 ++ codes "Connection: close\r\n\r\n" → n5 ≡ written_poll_request address stems
unfolding written_poll_request
poll_joined address stems n0 n1 n2 n3 n4 n5 e0 e1 e2 e3 e4 e5 =
    let query = query_text stems in
    let host = head_line (codes "Host: " ++ address) in
    let close = codes "Connection: close\r\n\r\n" in
    joined_5 (codes "GET /acks?") query (codes " HTTP/1.1\r\n") host close n0 n1 n2 n3 n4 n5 e0 e1 e2 e3 e4 e5
    ∙ ap (λ t. codes "GET /acks?" ++ t) (line query (codes " HTTP/1.1") (13 ∷ 10 ∷ []) (host ++ close))
  where
    line : (q v e r : List ℕ) → q ++ (v ++ (e ++ r)) ≡ ((q ++ v) ++ e) ++ r
    line q v e r = sym (simp append_assoc)

pub reply_joined : (code : ℕ) (phrase body n0 n1 n2 n3 n4 n5 : List ℕ) → n0 ≡ []
    → n1 ≡ n0 ++ head_line (codes "HTTP/1.1 " ++ (decimal code ++ 32 ∷ phrase)) → n2 ≡ n1
    ++ codes "Content-Type: text/plain\r\n"
    → n3 ≡ n2 ++ head_line (codes "Content-Length: " ++ decimal (length body)) → n4 ≡ n3
    ++ codes "Connection: close\r\n\r\n"
    → n5 ≡ n4 ++ body → n5 ≡ written_reply code phrase body
unfolding written_reply
reply_joined code phrase body n0 n1 n2 n3 n4 n5 e0 e1 e2 e3 e4 e5 =
    joined_5 (head_line (codes "HTTP/1.1 " ++ (decimal code ++ 32 ∷ phrase))) (codes "Content-Type: text/plain\r\n")
    (head_line (codes "Content-Length: " ++ decimal (length body))) (codes "Connection: close\r\n\r\n") body
    n0 n1 n2 n3 n4 n5 e0 e1 e2 e3 e4 e5

-- the three digits of a code
pub digits_of_code : (n : ℕ) → 100 ≤ n → n < 1000 → code_digits n ≡ decimal n
digits_of_code n from below =
    let small : n < 2 ^ 64 = omega arith in
    let tens : 10 ≤ n / 10 = omega arith in
    let low : n / 10 < 2 ^ 64 = omega arith in
    let high : n / 10 / 10 < 10 = omega arith in
    let same : n / 10 / 10 ≡ n / 100 = omega arith in
    sym (decimal_step n (omega arith) small
    ∙ (ap (λ t. t ++ (48 + n % 10) ∷ []) (decimal_step (n / 10) tens low)
    ∙ ap (λ t. (t ++ (48 + n / 10 % 10) ∷ [])
    ++ (48 + n % 10) ∷ []) (decimal_digit (n / 10 / 10) high ∙ ap (λ m. (48 + m) ∷ []) same)))

-- one more stem behind a first one
push_stem : (x : Stem) (xs : List Stem) (y : Stem)
    → query_text (x ∷ (xs ++ y ∷ [])) ≡ (query_text (x ∷ xs) ++ 38 ∷ []) ++ stem_text y
push_stem x [] y = sym (append_assoc (stem_text x) (38 ∷ []) (stem_text y))
push_stem x (z ∷ xs) y =
    ap (λ t. stem_text x ++ 38 ∷ t) (push_stem z xs y) ∙ line (stem_text x) (query_text (z ∷ xs)) (stem_text y)
  where
    line : (a q b : List ℕ) → a ++ 38 ∷ ((q ++ 38 ∷ []) ++ b) ≡ ((a ++ 38 ∷ q) ++ 38 ∷ []) ++ b
    line a q b = sym (append_assoc (a
        ++ 38 ∷ q) (38 ∷ []) b ∙ (append_assoc a (38 ∷ q) (38 ∷ b) ∙ ap (λ t. a
        ++ 38 ∷ t) (sym (append_assoc q (38 ∷ []) b))))

-- one more stem, with what stands before it
push_stem_at : (xs : List Stem) (y : Stem) → query_text (xs ++ y ∷ []) ≡ (query_text xs ++ separator_at (length xs))
    ++ stem_text y
push_stem_at [] y = refl
push_stem_at (x ∷ xs) y =
    push_stem x xs y
    ∙ ap (λ s. (query_text (x ∷ xs) ++ s) ++ stem_text y)
    (sym (cond-false (length (x ∷ xs) == 0) [] (38 ∷ []) (ne_eqb (length (x ∷ xs)) 0 (λ none. omega arith))))

-- as the loop over stems goes on
pub stems_more : (stems : List Stem) (i : ℕ) (d y : Stem) (start old new next : List ℕ) → i < length stems
    → get_or stems i d ≡ y
    → old ≡ start ++ query_text (take i stems) → new ≡ old ++ separator_at i → next ≡ new ++ stem_text y
    → next ≡ start ++ query_text (take (i + 1) stems)
stems_more stems i d y start old new next inside item so_far separated written =
    let size : length (take i stems) ≡ i = length-take-le i stems (omega arith) in
    let here : query_text (take (i + 1) stems) ≡ (query_text (take i stems) ++ separator_at i) ++ stem_text y =
    ap query_text (take_more stems i d inside)
    ∙ (push_stem_at (take i stems) (get_or stems i d)
    ∙ ap₂ (λ n z. (query_text (take i stems) ++ separator_at n) ++ stem_text z) size item) in
    written ∙ (ap (λ t. t ++ stem_text y) (separated ∙ ap (λ t. t ++ separator_at i) so_far)
    ∙ (flat start (query_text (take i stems)) (separator_at i) (stem_text y) ∙ ap (λ t. start ++ t) (sym here)))
  where
    flat : (a b c d : List ℕ) → ((a ++ b) ++ c) ++ d ≡ a ++ ((b ++ c) ++ d)
    flat a b c d = simp append_assoc

pub valid_more : (stems : List Stem) (i : ℕ) (d y : Stem) → i < length stems → get_or stems i d ≡ y
    → IsTrue (list_all is_stem (take i stems)) → IsTrue (is_stem y) → IsTrue (list_all is_stem (take (i + 1) stems))
valid_more stems i d y inside item so_far valid =
    list_all_more is_stem stems i d inside
    ∙ and_from (list_all is_stem (take i stems)) (is_stem (get_or stems i d)) so_far (ap is_stem item ∙ valid)

-- the status line, piece by piece
pub status_joined : (code : ℕ) (phrase old n1 n2 n3 n4 n5 : List ℕ) → 100 ≤ code → code < 1000 → n1 ≡ old
    ++ codes "HTTP/1.1 "
    → n2 ≡ n1 ++ code_digits code → n3 ≡ n2 ++ codes " " → n4 ≡ n3 ++ phrase → n5 ≡ n4 ++ codes "\r\n"
    → n5 ≡ old ++ head_line (codes "HTTP/1.1 " ++ (decimal code ++ 32 ∷ phrase))
status_joined code phrase old n1 n2 n3 n4 n5 from below e1 e2 e3 e4 e5 =
    e5 ∙ (ap (λ x. x ++ codes "\r\n") (e4 ∙ ap (λ x. x ++ phrase) (e3 ∙ ap (λ x. x ++ codes " ")
    (e2 ∙ ap₂ (λ x d. x ++ d) e1 (digits_of_code code from below))))
    ∙ flat old (codes "HTTP/1.1 ") (decimal code) phrase (codes "\r\n"))
  where
    flat : (o a d p e : List ℕ) → ((((o ++ a) ++ d) ++ codes " ") ++ p) ++ e ≡ o ++ ((a ++ (d ++ 32 ∷ p)) ++ e)
    flat o a d p e = simp (append_assoc, cons-append)

-- the phrase, or none
pub phrase_given : (r : Option (Bor (List ℕ))) (other given : Bor (List ℕ)) (code : ℕ) → given ≡ unwrap_or r other
    → other.now ≡ []
    → option_map (λ s. s.now) r ≡ reason_phrase code → given.now ≡ phrase_of code
unfolding phrase_of
phrase_given None other given code e empty phrase =
    ap (λ s. s.now) e ∙ (empty ∙ ap (λ o. unwrap_or o []) phrase)
phrase_given (Some s) other given code e empty phrase = ap (λ s. s.now) e ∙ ap (λ o. unwrap_or o []) phrase

-- what is known of a code that is answered
pub record AnswerCode (code : ℕ) : Type 0 where
  pub from : 100 ≤ code
  pub below : code < 1000
  pub phrase : IsTrue (is_phrase (phrase_of code))

pub answer_code : (code : ℕ) → IsTrue (is_answer_code code) → AnswerCode code
unfolding phrase_of
answer_code code is =
    elim (or_cases (code == 200) _ is) [
      | inl e ↦ at 200 (omega arith) (omega arith) refl e
      | inr is ↦ elim (or_cases (code == 400) _ is) [
        | inl e ↦ at 400 (omega arith) (omega arith) refl e
        | inr is ↦ elim (or_cases (code == 404) _ is) [
          | inl e ↦ at 404 (omega arith) (omega arith) refl e
          | inr is ↦ elim (or_cases (code == 405) _ is) [
            | inl e ↦ at 405 (omega arith) (omega arith) refl e
            | inr is ↦ elim (or_cases (code == 411) _ is) [
              | inl e ↦ at 411 (omega arith) (omega arith) refl e
              | inr is ↦ elim (or_cases (code == 413) (code == 503) is) [
                | inl e ↦ at 413 (omega arith) (omega arith) refl e
                | inr e ↦ at 503 (omega arith) (omega arith) refl e
              ]
            ]
          ]
        ]
      ]
    ]
  where
    at : (n : ℕ) → 100 ≤ n → n < 1000 → IsTrue (is_phrase (phrase_of n)) → (code == n) ≡ true → AnswerCode code
    at n from below phrase e = subst AnswerCode (sym (eqb-true code n e)) record { from = from; below = below; phrase = phrase }
