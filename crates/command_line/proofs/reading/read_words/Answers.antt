use Rattle.std.proofs.Common.{◌∙◌, string_bytes, sym}
use Rattle.command_line.proofs.Cases.{any_seen, asks_about, asks_command, asks_help, asks_version, no_words, unnamed}
use Rattle.command_line.proofs.reading.read_words.Goals as goal

pub returns-in_default-clause-is : goal.returns-in_default-clause-is
returns-in_default-clause-is c = rw c.refuse.ensures (no_words _ (sym c.in_default.ensures))

pub returns-then-is_help_word-clause-is : goal.returns-then-is_help_word-clause-is
returns-then-is_help_word-clause-is c = asks_help _ _ (sym c.in-Some.ensures) (sym c.is_help_word.ensures ∙ c.if-is_help_word.true)

pub returns-then-is_version_word-clause-is : goal.returns-then-is_version_word-clause-is
returns-then-is_version_word-clause-is c =
    asks_version _ _ (sym c.in-Some.ensures) (sym c.is_help_word.ensures ∙ c.if-is_help_word.false) (sym c.is_version_word.ensures ∙ c.if-is_version_word.true)

pub returns-in_default-name_in-clause-is : goal.returns-in_default-name_in-clause-is
returns-in_default-name_in-clause-is c =
    rw c.refuse-in_default-name_in.ensures (unnamed _ _ (sym c.in-Some.ensures) (sym c.is_help_word.ensures ∙ c.if-is_help_word.false) (sym c.is_version_word.ensures ∙ c.if-is_version_word.false) (sym c.name_in.ensures ∙ c.in_default-name_in.is))

pub returns-then-asks_help-clause-is : goal.returns-then-asks_help-clause-is
returns-then-asks_help-clause-is c =
    asks_about _ _ _ (sym c.in-Some.ensures) (sym c.is_help_word.ensures ∙ c.if-is_help_word.false) (sym c.is_version_word.ensures ∙ c.if-is_version_word.false) (sym c.name_in.ensures ∙ c.in-Some-name_in.is) (sym (any_seen string_bytes c.args.words.now) ∙ sym c.asks_help.ensures ∙ c.if-asks_help.true)

pub returns-clause-is : goal.returns-clause-is
returns-clause-is c =
    rw (asks_command _ _ _ (sym c.in-Some.ensures) (sym c.is_help_word.ensures ∙ c.if-is_help_word.false) (sym c.is_version_word.ensures ∙ c.if-is_version_word.false) (sym c.name_in.ensures ∙ c.in-Some-name_in.is) (sym (any_seen string_bytes c.args.words.now) ∙ sym c.asks_help.ensures ∙ c.if-asks_help.false)) c.read_command.ensures.is
