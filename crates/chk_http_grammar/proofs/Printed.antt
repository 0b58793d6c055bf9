-- What is written is a head of the grammar and a body behind it.
use Rattle.std.proofs.Common.{◌≡◌, ℕ, List, [], ◌∷◌, ◌++◌, length, Some, ap, append_assoc}
use Rattle.std.specs.Prelude.{codes, decimal}
use Rattle.httparse.specs.Grammar.{Field, crlf, RequestHead, ResponseHead, print_request, print_response}
use Rattle.std.proofs.lemmas.List.{append-nil}
use Rattle.chk_bytes.specs.Stems.{Stem}
use Rattle.chk_http_grammar.specs.Messages.{query_text, written_post_request, written_poll_request, written_reply}

abbrev line_end : List ℕ
line_end = 13 ∷ 10 ∷ []

-- a header line as it is written
unfoldable pub field : List ℕ → List ℕ → Field
field name value = record { name = name; raw = 32 ∷ value; end = crlf }

-- the head of a post request
unfoldable pub post_head : List ℕ → ℕ → RequestHead
unfolding field
post_head address n = record {
  blank = [];
  method = codes "POST";
  target = codes "/chukwa";
  minor = 1;
  line_end = crlf;
  fields = field (codes "Host") address ∷ field (codes "Content-Type") (codes "application/octet-stream")
      ∷ field (codes "Content-Length") (decimal n) ∷ field (codes "Connection") (codes "close") ∷ [];
  last = crlf;
}

-- the head of a poll
unfoldable pub poll_head : List ℕ → List Stem → RequestHead
unfolding field
poll_head address stems = record {
  blank = [];
  method = codes "GET";
  target = codes "/acks?" ++ query_text stems;
  minor = 1;
  line_end = crlf;
  fields = field (codes "Host") address ∷ field (codes "Connection") (codes "close") ∷ [];
  last = crlf;
}

-- the head of a reply
unfoldable pub reply_head : ℕ → List ℕ → ℕ → ResponseHead
unfolding field
reply_head code phrase n = record {
  blank = [];
  minor = 1;
  digits = decimal code;
  reason = Some phrase;
  line_end = crlf;
  fields = field (codes "Content-Type") (codes "text/plain") ∷ field (codes "Content-Length") (decimal n)
      ∷ field (codes "Connection") (codes "close") ∷ [];
  last = crlf;
}

two_texts : (x c y k e body : List ℕ) → ((x ++ (c ++ (y ++ (k ++ [])))) ++ e) ++ body ≡ x ++ (c ++ (y ++ (k ++ (e ++ body))))
two_texts x c y k e body = simp (append_assoc, append-nil)

one_text : (x k e : List ℕ) → (x ++ (k ++ [])) ++ e ≡ x ++ (k ++ e)
one_text x k e = simp (append_assoc, append-nil)

behind_text : (s c y k e body : List ℕ) → (s ++ ((c ++ (y ++ (k ++ []))) ++ e)) ++ body ≡ s ++ (c ++ (y ++ (k ++ (e ++ body))))
behind_text s c y k e body = simp (append_assoc, append-nil)

pub print-post : (address body : List ℕ) → print_request (post_head address (length body)) ++ body ≡ written_post_request address body
unfolding print_request post_head field written_post_request
print-post address body =
    ap (λ t. codes "POST /chukwa HTTP/1.1\r\nHost: " ++ t)
    (two_texts (address ++ line_end) (codes "Content-Type: application/octet-stream\r\nContent-Length: ") (decimal (length body) ++ line_end)
    (codes "Connection: close\r\n") line_end body)

pub print-poll : (address : List ℕ) (stems : List Stem) → print_request (poll_head address stems) ≡ written_poll_request address stems
unfolding print_request poll_head field written_poll_request
print-poll address stems =
    ap (λ t. codes "GET /acks?" ++ (query_text stems ++ codes " HTTP/1.1" ++ line_end ++ (codes "Host: " ++ t)))
    (one_text (address ++ line_end) (codes "Connection: close\r\n") line_end)

pub print-reply : (code : ℕ) (phrase body : List ℕ) → print_response (reply_head code phrase (length body)) ++ body ≡ written_reply code phrase body
unfolding print_response reply_head field written_reply
print-reply code phrase body =
    ap (λ t. codes "HTTP/1.1 " ++ t)
    (behind_text (decimal code ++ 32 ∷ phrase ++ line_end) (codes "Content-Type: text/plain\r\nContent-Length: ")
    (decimal (length body) ++ line_end) (codes "Connection: close\r\n") line_end body)
