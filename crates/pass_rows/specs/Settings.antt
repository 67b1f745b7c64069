-- The setting of a pass, computed from the struct `Setting` of `src/setting.rt`. All definitions are this project's.
use Rattle.passcode.specs.Settings.{Setting, setting_of}
use Rattle.pass_rows.specs.declared.setting.Setting.{Setting as PassSetting}

-- The setting with the grammar, the plan and the pass of the struct. For pass k its field `write` is k, and `read`, the pass
-- whose file is read, is k - 1.
abbrev pub pass_setting : PassSetting → Setting
pass_setting s = setting_of s.grammar.now s.plan.now s.pass
