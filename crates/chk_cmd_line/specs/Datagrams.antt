-- The words of `udp`, what holds of them, and the line that it prints.
use Rattle.std.specs.Prelude.{ℕ, ◌≤◌, Bool, ◌&&◌, ◌||◌, ◌==◌, nat_lt, nat_le, IsTrue, List, [], ◌∷◌, length, codes, decimal}
use Rattle.std.specs.Char.{is_ascii_alphanumeric}
use Rattle.std.specs.List.{list_all}
use Rattle.chk_bytes.specs.Words.{is_word}
use Rattle.chk_cmd_line.specs.declared.datagrams.UdpWords.{UdpWords}
use Rattle.chk_cmd_line.specs.Lines.{line_of}
use Rattle.chk_cmd_line.specs.Names.{most}

-- a letter, a digit or `_`
abbrev pub is_writer_byte : ℕ → Bool
is_writer_byte b = is_ascii_alphanumeric b || b == 95

-- the name of a writer of datagrams: 1 to 64 such bytes
abbrev pub is_writer_name : List ℕ → Bool
is_writer_name name =
    nat_lt 0 (length name) && nat_le (length name) 64 && list_all is_writer_byte name

-- the words of `udp`
pub record UdpAsked : Type 0 where
  pub turns : ℕ
  pub rotate : ℕ
  pub messages : ℕ
  pub name : List ℕ
  pub address : List ℕ

-- the texts that borrowed words lend
abbrev pub udp_of : UdpWords → UdpAsked
udp_of w = record {
  turns = w.turns;
  rotate = w.rotate;
  messages = w.messages;
  name = w.name.now;
  address = w.address.now;
}

-- the name is a writer's, the address a word, and the numbers are in their bounds
abbrev pub IsGoodUdp : UdpAsked → Type 0
IsGoodUdp w =
    IsTrue (is_writer_name w.name) × IsTrue (is_word w.address)
    × ((1 ≤ w.turns) × (w.turns ≤ most))
    × ((1 ≤ w.rotate) × (w.rotate ≤ most))
    × ((1 ≤ w.messages) × (w.messages ≤ 64))

-- datagrams that were taken, and their bytes
abbrev pub udp_line : ℕ → ℕ → List ℕ
udp_line taken bytes =
    line_of (codes "udp" ∷ codes "taken" ∷ decimal taken ∷ codes "bytes" ∷ decimal bytes ∷ [])
