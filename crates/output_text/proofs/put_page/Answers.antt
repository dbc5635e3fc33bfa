-- `output_text::put_page` meets its contract. The records are within the array, and their lines are the groups'. Assumes nothing.
use Rattle.std.proofs.Common.{ℕ, ◌*◌, List, take, replicate, refl, ap₂, ◌∙◌}
use Rattle.pages.specs.declared.Page.{Page}
use Rattle.group_pages.specs.Records.{record_width}
use Rattle.output_text.specs.Records.{records_text}
use Rattle.output_text.specs.PageTexts.{page_room}
use Rattle.output_text.proofs.Texts.{page_text_law}
use Rattle.output_text.proofs.put_page.Goals as goal

pub returns : goal.returns
returns c =
    let a = c.args in
    let p = c.list_page-page in
    record {
      page = p.ensures.answer;
      text =
          c.put_records.ensures
          ∙ ap₂ (λ (x : Page) (s : List ℕ). records_text (take (record_width * x.count) s)) p.ensures.answer p.ensures.bytes
          ∙ page_text_law a.g a.k a.from (replicate page_room 0) refl;
    }
