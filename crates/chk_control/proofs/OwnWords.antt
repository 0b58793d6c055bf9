-- The words of the commands and the names of the classes are words themselves.
use Rattle.std.proofs.Common.{◌≡◌, true, codes, refl}
use Rattle.std.specs.Str.{is_utf8, chars}
use lib.Utf8.{encode}
use Rattle.chk_bytes.specs.Words.{is_word}
use Rattle.chk_control.specs.declared.Class.{Class}
use Rattle.chk_control.specs.declared.Class.TheVariants.{Plain, Rotating, Lines}
use Rattle.chk_control.specs.Classes.{class_name}

pub record OwnWords : Type 0 where
  pub add : is_word (codes "add") ≡ true
  pub close : is_word (codes "close") ≡ true
  pub help : is_word (codes "help") ≡ true
  pub list_all : is_word (codes "list") ≡ true
  pub reload : is_word (codes "reloadcollectors") ≡ true
  pub stop : is_word (codes "stop") ≡ true
  pub stop_all : is_word (codes "stopall") ≡ true
  pub shutdown : is_word (codes "shutdown") ≡ true
  pub stop_agent : is_word (codes "stopagent") ≡ true
  pub sign : is_word (codes "=") ≡ true

pub own_words : OwnWords
unfolding is_word is_utf8 chars encode
own_words = record {
  add = refl;
  close = refl;
  help = refl;
  list_all = refl;
  reload = refl;
  stop = refl;
  stop_all = refl;
  shutdown = refl;
  stop_agent = refl;
  sign = refl;
}

pub class_is_word : (class : Class) → is_word (class_name class) ≡ true
unfolding is_word is_utf8 chars encode
class_is_word Plain = refl
class_is_word Rotating = refl
class_is_word Lines = refl
