use Rattle.dw_page.proofs.pictures.push_label_at.Goals as goal

pub returns : goal.returns
returns c = rw (← c.format.ensures.text, ← c.format-2.ensures.text, ← c.format-3.ensures.text) c.push_all.ensures
