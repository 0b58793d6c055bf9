-- The heads of written messages are in the grammar, small, and state the length of the body.
use Rattle.std.proofs.Common.{◌≡◌, ℕ, ◌+◌, true, List, [], ◌∷◌, ◌++◌, length, refl, ap, arith, length-append, ◌≤◌, ◌<◌, ◌^◌}
use Rattle.std.specs.Prelude.{codes, decimal, All}
use Rattle.std.specs.List.{list_all}
use Rattle.std.specs.Char.{is_ascii_digit}
use Rattle.std.proofs.lemmas.Fmt.{decimal_is_IsNumeral}
use Rattle.std.proofs.lemmas.List.Sums.{AllPass-from_list_all}
use Rattle.std.proofs.lemmas.List.Elements.{All-cons, All-nil}
use lib.Utf8.{encode}
use Rattle.httparse.specs.Grammar.{Field, IsField, IsToken, IsRequestHead, IsResponseHead, print_request, print_response, is_token_byte, is_value_byte, is_uri_byte, status_code}
use Rattle.chk_bytes.specs.Stems.{Stem}
use Rattle.chk_http_grammar.specs.Heads.{stated_lengths, stated_codings, values_named}
use Rattle.chk_http_grammar.specs.Messages.{query_text}
use Rattle.chk_http_grammar.proofs.Texts.{trim_decimal, is_between, is_between-wider, list_all-weaker, pass_append, uri_from_between, utf8_from_between, decimal_digits, three_digits}
use Rattle.chk_http_grammar.proofs.Printed.{field, post_head, poll_head, reply_head}

token : (text : List ℕ) → list_all is_token_byte text ≡ true → 0 < length text → IsToken text
token text pass some = (some, AllPass-from_list_all is_token_byte text pass)

is_field : (name value : List ℕ) → 0 < length name → list_all is_token_byte name ≡ true → list_all is_value_byte value ≡ true → IsField (field name value)
unfolding field
is_field name value some name_passes value_passes = record {
  name = token name name_passes some;
  raw = AllPass-from_list_all is_value_byte (32 ∷ value) value_passes;
}

host : (address : List ℕ) → list_all is_value_byte address ≡ true → IsField (field (codes "Host") address)
unfolding is_token_byte
host address pass = is_field (codes "Host") address (omega arith) refl pass

stated : (n : ℕ) → list_all is_value_byte (decimal n) ≡ true → IsField (field (codes "Content-Length") (decimal n))
unfolding is_token_byte
stated n pass = is_field (codes "Content-Length") (decimal n) (omega arith) refl pass

stream : IsField (field (codes "Content-Type") (codes "application/octet-stream"))
unfolding is_token_byte
stream = is_field (codes "Content-Type") (codes "application/octet-stream") (omega arith) refl refl

plain : IsField (field (codes "Content-Type") (codes "text/plain"))
unfolding is_token_byte
plain = is_field (codes "Content-Type") (codes "text/plain") (omega arith) refl refl

close : IsField (field (codes "Connection") (codes "close"))
unfolding is_token_byte
close = is_field (codes "Connection") (codes "close") (omega arith) refl refl

two : (f g : Field) → IsField f → IsField g → All IsField (f ∷ g ∷ [])
two f g a b = All-cons IsField f (g ∷ []) a (All-cons IsField g [] b (All-nil IsField))

three : (f g h : Field) → IsField f → IsField g → IsField h → All IsField (f ∷ g ∷ h ∷ [])
three f g h a b c = All-cons IsField f (g ∷ h ∷ []) a (two g h b c)

four : (f g h i : Field) → IsField f → IsField g → IsField h → IsField i → All IsField (f ∷ g ∷ h ∷ i ∷ [])
four f g h i a b c d = All-cons IsField f (g ∷ h ∷ i ∷ []) a (three g h i b c d)

-- ---- post requests

pub post_head_valid : (address : List ℕ) (n : ℕ) → list_all is_value_byte address ≡ true → list_all is_value_byte (decimal n) ≡ true
    → IsRequestHead (post_head address n)
unfolding post_head is_token_byte encode
post_head_valid address n to number = record {
  method = token (codes "POST") refl (omega arith);
  target = (omega arith, AllPass-from_list_all is_uri_byte (codes "/chukwa") refl);
  target_text = (codes "/chukwa", (refl, refl));
  minor = omega arith;
  fields = four (field (codes "Host") address) (field (codes "Content-Type") (codes "application/octet-stream"))
      (field (codes "Content-Length") (decimal n)) (field (codes "Connection") (codes "close"))
      (host address to) stream (stated n number) close;
}

pub post_head_lengths : (address : List ℕ) (n : ℕ) → n < 2 ^ 64 → stated_lengths (post_head address n).fields ≡ decimal n ∷ []
unfolding post_head field values_named
post_head_lengths address n small = ap (λ v. v ∷ []) (trim_decimal n small)

pub post_head_codings : (address : List ℕ) (n : ℕ) → stated_codings (post_head address n).fields ≡ []
unfolding post_head field values_named
post_head_codings address n = refl

size_two : (x c y k e : List ℕ) → length ((x ++ (c ++ (y ++ (k ++ [])))) ++ e) ≡ length x + length c + length y + length k + length e
size_two x c y k e = simp length-append (omega arith)

pub post_head_size : (address : List ℕ) (n : ℕ) → length (print_request (post_head address n)) ≡ 110 + length address + length (decimal n)
unfolding print_request post_head field
post_head_size address n =
    let end : List ℕ = 13 ∷ 10 ∷ [] in
    let front = codes "POST /chukwa HTTP/1.1\r\nHost: " in
    let stream = codes "Content-Type: application/octet-stream\r\nContent-Length: " in
    let close = codes "Connection: close\r\n" in
    let rest = (address ++ end ++ (stream ++ (decimal n ++ end ++ (close ++ [])))) ++ end in
    let parts = size_two (address ++ end) stream (decimal n ++ end) close end in
    omega (arith, length-append front rest, parts, length-append address end, length-append (decimal n) end)

-- ---- polls

pub poll_head_valid : (address : List ℕ) (stems : List Stem) → list_all is_value_byte address ≡ true
    → list_all (is_between 37 127) (query_text stems) ≡ true → IsRequestHead (poll_head address stems)
unfolding poll_head is_token_byte
poll_head_valid address stems to plain =
    let test = is_between 32 127 in
    let target = codes "/acks?" ++ query_text stems in
    let pass : list_all test target ≡ true =
    pass_append test (codes "/acks?") (query_text stems) refl
    (list_all-weaker (is_between 37 127) test (λ b e. is_between-wider 37 127 32 127 b (omega arith) (omega arith) e) (query_text stems) plain) in
    record {
      method = token (codes "GET") refl (omega arith);
      target = (omega arith, AllPass-from_list_all is_uri_byte target (list_all-weaker test is_uri_byte uri_from_between target pass));
      target_text = utf8_from_between target pass;
      minor = omega arith;
      fields = two (field (codes "Host") address) (field (codes "Connection") (codes "close")) (host address to) close;
    }

pub poll_head_size : (address : List ℕ) (stems : List Stem)
    → length (print_request (poll_head address stems)) ≡ 50 + length address + length (query_text stems)
unfolding print_request poll_head field
poll_head_size address stems =
    let end : List ℕ = 13 ∷ 10 ∷ [] in
    let query = query_text stems in
    let front = codes "GET /acks?" in
    let version = codes " HTTP/1.1" in
    let host = codes "Host: " in
    let close = codes "Connection: close\r\n" in
    let line = query ++ version ++ end in
    let rest = (address ++ end ++ (close ++ [])) ++ end in
    let parts : length rest ≡ length address + 2 + length close + 2 = simp length-append (omega arith) in
    let line_size : length line ≡ length query + 11 = simp length-append (omega arith) in
    omega (arith, length-append front (line ++ (host ++ rest)), length-append line (host ++ rest), length-append host rest)

-- ---- replies

pub reply_head_valid : (code : ℕ) (phrase : List ℕ) (n : ℕ) → 100 ≤ code → code < 1000 → list_all is_value_byte phrase ≡ true
    → list_all is_value_byte (decimal n) ≡ true → IsResponseHead (reply_head code phrase n)
unfolding reply_head is_token_byte
reply_head_valid code phrase n from below phrase_passes number = record {
  minor = omega arith;
  digits = (three_digits code from below, AllPass-from_list_all is_ascii_digit (decimal code) (decimal_digits code (omega arith)));
  reason = AllPass-from_list_all is_value_byte phrase phrase_passes;
  fields = three (field (codes "Content-Type") (codes "text/plain")) (field (codes "Content-Length") (decimal n))
      (field (codes "Connection") (codes "close")) plain (stated n number) close;
}

pub reply_head_lengths : (code : ℕ) (phrase : List ℕ) (n : ℕ) → n < 2 ^ 64 → stated_lengths (reply_head code phrase n).fields ≡ decimal n ∷ []
unfolding reply_head field values_named
reply_head_lengths code phrase n small = ap (λ v. v ∷ []) (trim_decimal n small)

pub reply_head_code : (code : ℕ) (phrase : List ℕ) (n : ℕ) → code < 1000 → status_code (reply_head code phrase n) ≡ code
unfolding reply_head
reply_head_code code phrase n below = (decimal_is_IsNumeral code (omega arith)).1

pub reply_head_size : (code : ℕ) (phrase : List ℕ) (n : ℕ)
    → length (print_response (reply_head code phrase n)) ≡ 77 + length (decimal code) + length phrase + length (decimal n)
unfolding print_response reply_head field
reply_head_size code phrase n =
    let end : List ℕ = 13 ∷ 10 ∷ [] in
    let front = codes "HTTP/1.1 " in
    let plain = codes "Content-Type: text/plain\r\nContent-Length: " in
    let close = codes "Connection: close\r\n" in
    let line = decimal code ++ 32 ∷ phrase ++ end in
    let rest = (plain ++ (decimal n ++ end ++ (close ++ []))) ++ end in
    let parts : length rest ≡ length plain + length (decimal n) + 2 + length close + 2 = simp length-append (omega arith) in
    let line_size : length line ≡ length (decimal code) + 3 + length phrase = simp length-append (omega arith) in
    omega (arith, length-append front (line ++ rest), length-append line rest)
