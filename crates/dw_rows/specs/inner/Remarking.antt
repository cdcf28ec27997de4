-- Remarks in words, as the code keeps them.
use Rattle.std.specs.Prelude.{List}
use Rattle.dw_json.specs.Rows.{Member}
use Rattle.dw_rows.specs.CheckRow.{word_members}
use Rattle.dw_rows.specs.declared.checked.RemarkRow.{RemarkRow}
use Rattle.dw_study.specs.Telling.{texts_in}

-- the members of a remark in words
abbrev pub members_told : RemarkRow → List Member
members_told one = word_members one.kind.now (texts_in one.words)
