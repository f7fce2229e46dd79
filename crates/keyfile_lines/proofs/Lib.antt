mod LineAnswers
mod SignOf
mod SplitLines
mod ValidFronts
mod WholeLaw
mod WholeTexts
