use Rattle.std.proofs.Common.{ap}
use Rattle.std.specs.String.{string_bytes}
use Rattle.std.proofs.lemmas.Bool.{false≢true}
use Rattle.std.proofs.lemmas.Str.{IsUtf8-string_bytes}
use Rattle.cr_lex.proofs.Texts.{text_is, text_none}
use Rattle.cr_lex.proofs.symbols.text_of.Goals as goal

pub returns-in-Ok : goal.returns-in-Ok
returns-in-Ok c = rw c.new.ensures (text_is (string_bytes c.in-Ok.text) c.args.bytes.items (ap (λ v. v.items) c.in-Ok.ensures.ok) (IsUtf8-string_bytes c.in-Ok.text))

pub returns : goal.returns
returns c = text_none c.args.bytes.items (λ utf8. false≢true (c.in-Err.ensures.succeeds utf8))
