-- The value of a `Carried`, for each form of storage. All of this is this project's.
use Rattle.ag_value.specs.declared.value.Value.{Value, Fault, List, Num, Table, Text}
use Rattle.ag_carried.specs.declared.carried.Form.{Form}

-- The value that is stored in a form. `small` and `spelled` are `Rc`s, whose `value` is what they point to. Definitions see a
-- `SharedText` as its bytes, a `TableTree` as its pairs, and a `ListTree` as its items.
abbrev pub form_value : Form → Value
form_value (Form.Number n) = Num n
form_value (Form.Fault code) = Fault code
form_value (Form.Small small) = small.value
form_value (Form.Spelled spelled) = spelled.value
form_value (Form.Text text) = Text text
form_value (Form.Table table) = Table table
form_value (Form.List list) = List list
