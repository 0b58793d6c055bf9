-- How a call is named in print.
use Rattle.std.specs.Prelude.{ℕ, List, codes}
use Rattle.chk_site.specs.declared.acts.Call.{Call}
use Rattle.chk_site.specs.declared.acts.Call.TheVariants.{Start, LogRead, LogNewest, LogAppend, Create, Append, Sync, Rename, Remove, Cut, Size, Read, List as ListNames, Clock, Pause, Send, Got, Take, More, Answer, Say}

-- the call's name in lower-case letters
abbrev pub call_name : Call → List ℕ
call_name Start = codes "start"
call_name LogRead = codes "logread"
call_name LogNewest = codes "lognewest"
call_name LogAppend = codes "logappend"
call_name Create = codes "create"
call_name Append = codes "append"
call_name Sync = codes "sync"
call_name Rename = codes "rename"
call_name Remove = codes "remove"
call_name Cut = codes "cut"
call_name Size = codes "size"
call_name Read = codes "read"
call_name ListNames = codes "list"
call_name Clock = codes "clock"
call_name Pause = codes "pause"
call_name Send = codes "send"
call_name Got = codes "got"
call_name Take = codes "take"
call_name More = codes "more"
call_name Answer = codes "answer"
call_name Say = codes "say"
