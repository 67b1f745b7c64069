-- The context of a pass, and when it can run. All definitions are this project's.
use Rattle.passcode.specs.Settings.{Setting}
use Rattle.passcode.specs.Sound.{IsSound}
use Rattle.pass_rows.specs.declared.layouts.context.PassContext.{PassContext}
use Rattle.pass_rows.specs.Settings.{pass_setting}
use Rattle.pass_rows.specs.layouts.Layouts.{IsLayout}

-- The setting of a context.
abbrev pub setting : PassContext → Setting
setting context = pass_setting context.setting

-- The pass of a context can run: the setting is sound, and the field `rows` has the layout of each production.
pub record CanRun (context : PassContext) : Type 0 where
  pub sound : IsSound (setting context)
  pub layout : IsLayout (setting context) context.rows.now
