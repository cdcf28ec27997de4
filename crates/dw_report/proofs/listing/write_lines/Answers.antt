use Rattle.dw_report.proofs.listing.write_lines.Goals as goal

pub returns-clause-refused : goal.returns-clause-refused
returns-clause-refused g c = c.write_requested-result.ensures.refused

pub returns-clause-text : goal.returns-clause-text
returns-clause-text g c = c.write_requested-result.ensures.text

pub returns-clause-sink : goal.returns-clause-sink
returns-clause-sink g c = c.write_requested-result.ensures.sink
