use Rattle.airy_json.proofs.DocumentLemmas.{answer-long}
use Rattle.airy_json.proofs.reading.read_table.Goals as goal

pub returns-in-Err-TooLong-clause-read : goal.returns-in-Err-TooLong-clause-read
returns-in-Err-TooLong-clause-read g c =
    let bytes = rw c.in-Err-TooLong.field-0-is at c.in-Err-TooLong.ensures.read in
    record { bytes = bytes.text; consumed = bytes.consumed; most = bytes.most; tells = (bytes.tells, answer-long bytes.text bytes.tells) }
