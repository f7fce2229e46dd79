mod MendLaws
mod HeadLaws
