-- The numbers of actions and answers, and the stricter of two answers.
-- Source: "Authorizer Action Codes" and "Authorizer Return Codes" of SQLite's C interface; the stricter one is this project's own.
use Rattle.std.specs.Prelude.{ℕ}
use Rattle.cr_host.specs.declared.meaning.Action.{Action}
use Rattle.cr_host.specs.declared.meaning.Action.TheVariants.{CreateTable, Delete, Insert, Read, Select, Transaction, Update, AlterTable, Function}
use Rattle.cr_host.specs.declared.meaning.Auth.{Auth}
use Rattle.cr_host.specs.declared.meaning.Auth.TheVariants.{Ok, Deny, Ignore}

abbrev pub action_code : Action → ℕ
action_code CreateTable = 2
action_code Delete = 9
action_code Insert = 18
action_code Read = 20
action_code Select = 21
action_code Transaction = 22
action_code Update = 23
action_code AlterTable = 26
action_code Function = 31

abbrev pub auth_code : Auth → ℕ
auth_code Ok = 0
auth_code Deny = 1
auth_code Ignore = 2

-- a denial, else an IGNORE, else OK
abbrev pub stricter : Auth → Auth → Auth
stricter Deny b = Deny
stricter Ignore Deny = Deny
stricter Ignore Ignore = Ignore
stricter Ignore Ok = Ignore
stricter Ok b = b
