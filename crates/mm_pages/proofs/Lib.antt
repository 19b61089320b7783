mod Below
mod BytesLaws
mod RenewalLaws
mod WritingLaws
